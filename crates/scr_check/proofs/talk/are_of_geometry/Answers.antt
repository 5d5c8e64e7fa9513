use Rattle.std.proofs.Common.{◌≡◌, true, false, not, refl, sym, ◌∙◌, ap}
use Rattle.std.proofs.lemmas.Bool.{false≢true}
use Rattle.scr_check.proofs.GeometryLaws.{is_same, same_is, is_same_self, same_first, one_more, none_left}
use Rattle.scr_check.proofs.talk.are_of_geometry.Goals as goal

pub returns-then-ne : goal.returns-then-ne
returns-then-ne c = (
  λ no_way. absurd (false≢true no_way),
  λ all.
      let same = same_first c.args.geometry c.args.turns.now c.loop-turn.turn-index c.turn-item.result c.loop-turn-test.true c.turn-item.is (c.loop-turn.invariant.0 all) in
      let equal : is_same c.geometry.result c.args.geometry ≡ true = is_same_self c.geometry.result c.args.geometry (c.geometry.ensures ∙ same) in
      sym (ap not equal) ∙ sym c.ne.ensures ∙ c.if-ne.true,
)

pub loop-turn-preserved : goal.loop-turn-preserved
loop-turn-preserved c =
    let equal : is_same c.geometry.result c.args.geometry ≡ true = not_false _ (sym c.ne.ensures ∙ c.if-ne.false) in
    let more = one_more c.args.geometry c.args.turns.now c.loop-turn.turn-index c.turn-item.result c.loop-turn-test.true c.turn-item.is (sym c.geometry.ensures ∙ same_is c.geometry.result c.args.geometry equal) in
    (λ all. more.0 (c.loop-turn.invariant.0 all), λ rest. c.loop-turn.invariant.1 (more.1 rest))
  where
    not_false : (t : _) → not t ≡ false → t ≡ true
    not_false true is = refl
    not_false false is = absurd cc

pub returns : goal.returns
returns c = (λ yes_it_is. c.loop-turn.invariant.1 (none_left c.args.geometry c.args.turns.now c.loop-turn.turn-index c.loop-turn-test.false), λ all. refl)
