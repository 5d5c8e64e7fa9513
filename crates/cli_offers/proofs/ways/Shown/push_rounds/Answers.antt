use Rattle.std.proofs.Common.{◌≡◌, ◌∙◌, ◌++◌, ℕ, List, ap, ap₂}
use Rattle.cli_offers.specs.Ways.{Shown, Way, all_on, alone, ends_of, fresh, ways_on}
use Rattle.cli_offers.proofs.Layers.{begun, one_round}
use Rattle.cli_offers.proofs.ways.Shown.push_rounds.Goals as goal

pub loop-round-init : goal.loop-round-init
loop-round-init c =
    let found_is : c.push_on-2.new.ways.items ≡ ways_on c.args.self.now (alone c.args.from) = c.in_ok-push_on.ensures ∙ ap₂ (λ ways way. ways ++ ways_on c.args.self.now way) c.new-found.ensures.items c.alone.ensures in
    let known_is : c.in_ok-known.known.items ≡ ends_of c.push_on-2.new.ways.items = c.in_ok-known.ensures ∙ ap ends_of c.as_slice.ensures.value in
    begun c.args.self.now c.args.from c.args.ways.now.items c.in_ok-known.known.items c.push_on-2.new.ways.items found_is known_is

pub loop-round-preserved : goal.loop-round-preserved
loop-round-preserved c =
    let shown : Shown = c.args.self.now in
    let known : List ℕ = c.loop-round.known.items in
    let longer : List Way = c.in_ok-longer.longer.items in
    let longer_is : longer ≡ all_on shown c.loop-round.found.items = c.in_ok-longer.ensures ∙ ap (all_on shown) c.as_slice-in-loop-round.ensures.value in
    let found_is : c.in_ok-found.found.items ≡ fresh known longer = c.in_ok-found.ensures.ways ∙ ap (fresh known) c.as_slice-in-loop-round-2.ensures.value in
    let known_is : c.fresh.new.known.items ≡ known ++ ends_of (fresh known longer) = c.in_ok-found.ensures.known ∙ ap (λ ways. known ++ ends_of (fresh known ways)) c.as_slice-in-loop-round-2.ensures.value in
    let next_is : c.append.new.self.items ≡ c.loop-round.ways.items ++ longer = c.in_ok-append.ensures.items in
    one_round shown c.args.from c.loop-round._round c.args.ways.now.items c.loop-round.ways.items c.append.new.self.items known c.fresh.new.known.items
    c.loop-round.found.items longer c.in_ok-found.found.items c.loop-round.invariant longer_is found_is known_is next_is
