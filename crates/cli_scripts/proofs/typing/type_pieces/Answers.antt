use Rattle.std.proofs.Common.{◌∙◌, ap, subst, sym, inl, inr}
use Rattle.tn_session.specs.declared.pressed.Pressed.{Pressed}
use Rattle.cli_scripts.specs.TypedTexts.{goes_on, StoppedAt}
use Rattle.cli_scripts.proofs.Typed.{more_pressed}
use Rattle.cli_scripts.proofs.TextLaws.{goes_further, piece_after}
use Rattle.cli_scripts.proofs.typing.type_pieces.Goals as goal

pub returns-in-Inhibited-clause-deeds : goal.returns-in-Inhibited-clause-deeds
returns-in-Inhibited-clause-deeds c =
    more_pressed c.args.desk.now c.pieces.desk c.type_piece.new.desk c.pieces.invariant.deeds c.in_ok-type_piece.ensures.deeds

pub returns-in-Sent-clause-deeds : goal.returns-in-Sent-clause-deeds
returns-in-Sent-clause-deeds c =
    more_pressed c.args.desk.now c.pieces.desk c.type_piece.new.desk c.pieces.invariant.deeds c.in_ok-type_piece.ensures.deeds

pub pieces-preserved : goal.pieces-preserved
pieces-preserved c =
    let now = c.in_ok-type_piece.ensures.keeps in
    let before = c.pieces.invariant.keeps in
    record {
      keeps = (now.0 ∙ before.0, now.1 ∙ before.1, now.2 ∙ before.2, now.3 ∙ before.3);
      deeds = more_pressed c.args.desk.now c.pieces.desk c.type_piece.new.desk c.pieces.invariant.deeds c.in_ok-type_piece.ensures.deeds;
      went =
          goes_further c.args.code_page c.args.fills c.args.desk.now.talk c.args.text.now c.in-Some.after.now c.in_ok-type_piece.field-0 c.args.desk.now c.type_piece.new.desk
          c.args.saying.now c.type_piece.new.saying
          (piece_after c.args.code_page c.args.fills c.args.desk.now.talk c.args.text.now c.pieces.rest.now c.in-Some.after.now c.in-Some.piece c.in_ok-type_piece.field-0
          c.args.desk.now c.pieces.desk c.type_piece.new.desk c.args.saying.now c.pieces.saying c.type_piece.new.saying c.pieces.invariant.went (sym c.in-Some.ensures.piece)
          c.in_ok-type_piece.ensures.typed c.in_ok-type_piece.ensures.talk c.in_ok-type_piece.ensures.answer c.in_ok-type_piece.ensures.said)
          (elim c.in-Done.is [ inl done ↦ ap goes_on done | inr ignored ↦ ap goes_on ignored ]);
      host = c.in_ok-type_piece.ensures.host ∙ c.pieces.invariant.host;
    }

pub returns-in-Inhibited-clause-typed : goal.returns-in-Inhibited-clause-typed
returns-in-Inhibited-clause-typed c = (
  c.in-Some.after.now,
  subst (λ (a : Pressed). StoppedAt c.args.code_page c.args.fills c.args.desk.now.talk a c.args.text.now c.in-Some.after.now c.args.desk.now c.type_piece.new.desk
      c.args.saying.now c.type_piece.new.saying) c.in-Inhibited.is
      (piece_after c.args.code_page c.args.fills c.args.desk.now.talk c.args.text.now c.pieces.rest.now c.in-Some.after.now c.in-Some.piece c.in_ok-type_piece.field-0
      c.args.desk.now c.pieces.desk c.type_piece.new.desk c.args.saying.now c.pieces.saying c.type_piece.new.saying c.pieces.invariant.went (sym c.in-Some.ensures.piece)
      c.in_ok-type_piece.ensures.typed c.in_ok-type_piece.ensures.talk c.in_ok-type_piece.ensures.answer c.in_ok-type_piece.ensures.said),
)

pub returns-in-Sent-clause-typed : goal.returns-in-Sent-clause-typed
returns-in-Sent-clause-typed c =
    subst (λ (a : Pressed). StoppedAt c.args.code_page c.args.fills c.args.desk.now.talk a c.args.text.now c.in-Some.after.now c.args.desk.now c.type_piece.new.desk
    c.args.saying.now c.type_piece.new.saying) c.in-Sent.is
    (piece_after c.args.code_page c.args.fills c.args.desk.now.talk c.args.text.now c.pieces.rest.now c.in-Some.after.now c.in-Some.piece c.in_ok-type_piece.field-0
    c.args.desk.now c.pieces.desk c.type_piece.new.desk c.args.saying.now c.pieces.saying c.type_piece.new.saying c.pieces.invariant.went (sym c.in-Some.ensures.piece)
    c.in_ok-type_piece.ensures.typed c.in_ok-type_piece.ensures.talk c.in_ok-type_piece.ensures.answer c.in_ok-type_piece.ensures.said)
