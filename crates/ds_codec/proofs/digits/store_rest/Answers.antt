use Rattle.std.proofs.Common.{◌≡◌, ◌-◌, ◌++◌, take, drop, length, length-append, length-drop, length-take-le, ℕ, sym, ◌∙◌, arith}
use borrow.Rule.Slice.PartMut.{put_mid}
use Rattle.ds_codec.specs.Digits.{AreSpelled}
use Rattle.ds_codec.proofs.DigitPairs.{one_part, other_in}
use Rattle.ds_codec.proofs.digits.store_rest.Goals as goal

pub slice_bounds-store_few-end-3 : goal.slice_bounds-store_few-end-3
slice_bounds-store_few-end-3 c = sym (length-take-le 32 c.args.digits.now (omega (arith, c.requires.two, c.if-bytes-le-FEW.false)))

pub store_few-requires-2-clause-two : goal.store_few-requires-2-clause-two
store_few-requires-2-clause-two c =
    let many = length-take-le 32 c.args.digits.now (omega (arith, c.requires.two, c.if-bytes-le-FEW.false)) in
    let half = length-take-le 16 c.args.bytes.now (omega (arith, c.if-bytes-le-FEW.false)) in
    omega (arith, many, half)

pub returns-then-store_few-clause-digits : goal.returns-then-store_few-clause-digits
returns-then-store_few-clause-digits c told =
    let digits = c.args.digits.now in
    let bytes = c.args.bytes.now in
    let front = c.store_few-2.new.bytes in
    let back = c.store_few-then-store_few.new.bytes in
    let both = front ++ drop 16 bytes in
    let half : length front ≡ 16 = c.store_few-2.ensures.whole ∙ length-take-le 16 bytes (omega (arith, c.if-bytes-le-FEW.false)) in
    let rest = length-drop 16 bytes in
    let all : length both ≡ length bytes = omega (arith, half, rest, length-append front (drop 16 bytes), c.if-bytes-le-FEW.false) in
    let gone = length both - 16 in
    let behind = length-drop {A = ℕ} 16 both in
    let long : length back ≡ gone = c.store_few-then-store_few.ensures.whole ∙ length-take-le gone (drop 16 both) (omega (arith, behind)) in
    let parts = length-append {A = ℕ} (take 16 both) (back ++ drop gone (drop 16 both)) in
    let last_parts = length-append {A = ℕ} back (drop gone (drop 16 both)) in
    let taken = length-take-le 16 both (omega (arith, all, c.if-bytes-le-FEW.false)) in
    let none = length-drop {A = ℕ} gone (drop 16 both) in
    let whole : length (put_mid 16 gone both back) ≡ length both = omega (arith, parts, last_parts, taken, none, behind, long, all, c.if-bytes-le-FEW.false) in
    let first : AreSpelled digits both 16 =
    one_part digits bytes front 0 16 32 16 (omega arith) (omega (arith, half)) (omega (arith, half)) (λ k below. absurd (omega (arith, below)))
    (c.store_few-2.ensures.digits c.if-store_few.true) in
    one_part digits both back 16 gone (length digits - 32) (length (put_mid 16 gone both back)) (omega (arith, all, c.if-bytes-le-FEW.false))
    (omega (arith, whole, long)) (omega (arith, long, all, c.requires.two)) first (c.store_few-then-store_few.ensures.digits told)

pub returns-then-store_few-clause-others : goal.returns-then-store_few-clause-others
returns-then-store_few-clause-others c told =
    other_in c.args.digits.now (length c.args.digits.now - 32) 32 (c.store_few-then-store_few.ensures.others told)

pub returns-else-store_few-clause-others : goal.returns-else-store_few-clause-others
returns-else-store_few-clause-others c told = other_in c.args.digits.now 32 0 (c.store_few-2.ensures.others told)
