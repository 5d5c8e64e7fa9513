use Rattle.std.proofs.Common.{◌≡◌, ℕ, ◌+◌, ◌-◌, ◌<◌, ◌≤◌, length, sym, ◌∙◌, ap, arith}
use Rattle.ds_codec.specs.declared.cell.Cell.TheVariants.{Char}
use Rattle.ds_screen.specs.Picture.{Picture, ruled}
use Rattle.ds_screen.specs.Fields.{is_attribute}
use Rattle.ds_keys.specs.Kept.{so_far, moved_back}
use Rattle.ds_keys.proofs.RunLaws.{with_cells, store_none, store_more, length_stored, on_from, still_there, moved_same}
use Rattle.ds_keys.proofs.runs.shift_back.Goals as goal

pub places-init : goal.places-init
places-init g c =
    let v : Picture = c.args.screen.now in
    let zero : 0 ≡ c.args.from - c.args.from = omega arith in
    store_none v c.args.from (moved_back v.cells c.args.end)
    ∙ ap (λ k. with_cells v (ruled (length v.cells) (so_far v.cells c.args.from k (moved_back v.cells c.args.end)))) zero

pub character_behind-character-requires-clause-within : goal.character_behind-character-requires-clause-within
character_behind-character-requires-clause-within g c =
    let v : Picture = c.args.screen.now in
    omega (arith, c.requires.within, length_stored v c.places.screen (so_far v.cells c.args.from (c.places.p - c.args.from) (moved_back v.cells c.args.end)) c.places.invariant)

pub character_behind-character-requires-clause-character : goal.character_behind-character-requires-clause-character
character_behind-character-requires-clause-character g c more =
    let v : Picture = c.args.screen.now in
    ap is_attribute (still_there v c.places.screen c.args.from (c.places.p - c.args.from) (c.places.p + 1) (moved_back v.cells c.args.end) (omega (arith, c.places.auto.p)) (omega (arith, c.requires.within)) c.places.invariant)
    ∙ c.requires.characters (c.places.p + 1) (omega (arith, c.places.auto.p)) more

pub put_char-requires : goal.put_char-requires
put_char-requires g c =
    let v : Picture = c.args.screen.now in
    omega (arith, c.requires.within, c.places-test.true, length_stored v c.places.screen (so_far v.cells c.args.from (c.places.p - c.args.from) (moved_back v.cells c.args.end)) c.places.invariant)

pub places-preserved : goal.places-preserved
places-preserved g c =
    let v : Picture = c.args.screen.now in
    let p : ℕ = c.places.p in
    let k : ℕ = c.places.p - c.args.from in
    let from : c.args.from ≤ p = c.places.auto.p in
    let lt : p < length v.cells = omega (arith, c.requires.within, c.places-test.true) in
    let says : moved_back v.cells c.args.end p ≡ Char c.character_behind-character.result =
    sym (c.character_behind-character.ensures
    ∙ moved_same v.cells c.places.screen.cells c.args.end p c.places-test.true
    (λ more. still_there v c.places.screen c.args.from k (p + 1) (moved_back v.cells c.args.end) (omega (arith, c.places.auto.p)) (omega (arith, c.requires.within)) c.places.invariant)) in
    let next : k + 1 ≡ p + 1 - c.args.from = omega (arith, c.places.auto.p) in
    store_more v c.places.screen c.put_char.new.self c.args.from k p (moved_back v.cells c.args.end) (Char c.character_behind-character.result)
    (omega (arith, c.places.auto.p)) (omega (arith, c.places.auto.p)) (on_from (length v.cells) c.args.from p from lt) c.places.invariant says c.put_char.ensures.changed
    ∙ ap (λ z. with_cells v (ruled (length v.cells) (so_far v.cells c.args.from z (moved_back v.cells c.args.end)))) next

pub returns : goal.returns
returns g c =
    let v : Picture = c.args.screen.now in
    let all : c.places.p - c.args.from ≡ c.args.end - c.args.from = omega (arith, c.places-test.false, c.places.auto.p-end c.requires.ahead) in
    c.places.invariant ∙ ap (λ z. with_cells v (ruled (length v.cells) (so_far v.cells c.args.from z (moved_back v.cells c.args.end)))) all
