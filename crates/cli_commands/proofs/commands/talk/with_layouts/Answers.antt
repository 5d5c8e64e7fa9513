use Rattle.std.proofs.Common.{◌+◌, ◌<◌, ◌∷◌, ◌++◌, List, ℕ, length, map, drop, get_or, sym, ◌∙◌, ap, arith}
use Rattle.std.proofs.lemmas.List.{append-nil}
use Rattle.std.specs.Global.{Vec}
use Rattle.std.specs.Borrow.{Bor}
use Rattle.scr_layout.specs.Layout.{Declaration}
use Rattle.scr_check.specs.Walk.{Round}
use Rattle.scr_check.specs.TalkSeen.{rounds_of}
use Rattle.cli_commands.specs.Talk.{rounds}
use Rattle.cli_commands.specs.TurnsHeld.{lent_held}
use Rattle.cli_commands.proofs.Turned.{rounds_on, rounds_end, rounds_more}
use Rattle.cli_commands.proofs.commands.talk.with_layouts.Goals as goal

abbrev one_round : Vec (Bor (List ℕ)) → Declaration → Round
one_round records layout = record { records = map (λ bytes. bytes.now) records.items; layout = layout }

pub loop-index-preserved : goal.loop-index-preserved
loop-index-preserved c =
    let i : ℕ = c.loop-index.index in
    let r : Vec (Bor (List ℕ)) = c.index-records-index.result in
    let l : Declaration = c.index-layouts-index.result in
    let inside : i < length c.args.layouts.now = omega (arith, c.loop-index-test.true, c.requires) in
    rounds_more c.loop-index.turns.items c.push.new.self.items _ (one_round r l) (rounds (lent_held (drop (i + 1) c.args.records.now)) (drop (i + 1) c.args.layouts.now)) (rounds (lent_held (drop i c.args.records.now)) (drop i c.args.layouts.now)) (rounds (lent_held c.args.records.now) c.args.layouts.now)
    c.in_ok-push.ensures.items (ap (λ bs. (let o : Round = record { records = map (λ bytes. bytes.now) bs; layout = l } in o)) c.as_slice.ensures.value)
    (ap (λ q. one_round q l ∷ rounds (lent_held (drop (i + 1) c.args.records.now)) (drop (i + 1) c.args.layouts.now)) c.index-records-index.is
    ∙ ap (λ q. one_round (get_or c.args.records.now i r) q ∷ rounds (lent_held (drop (i + 1) c.args.records.now)) (drop (i + 1) c.args.layouts.now)) c.index-layouts-index.is
    ∙ rounds_on c.args.records.now c.args.layouts.now i r l c.loop-index-test.true inside)
    c.loop-index.invariant

pub returns : goal.returns
returns c =
    sym (append-nil (rounds_of c.loop-index.turns.items))
    ∙ ap (λ rest. rounds_of c.loop-index.turns.items ++ rest) (sym (rounds_end c.args.records.now c.args.layouts.now c.loop-index.index c.loop-index-test.false))
    ∙ c.loop-index.invariant
