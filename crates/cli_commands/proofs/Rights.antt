-- Right so many times puts the cursor where Down for each whole row does, and then Right for the rest.
use Rattle.std.proofs.Common.{◌≡◌, ℕ, zero, suc, ◌+◌, ◌*◌, ◌/◌, ◌%◌, ◌<◌, ◌≤◌, length, replicate, refl, sym, ap, arith, ◌∙◌, inl, inr}
use Rattle.std.proofs.lemmas.List.{replicate-append-replicate}
use Rattle.std.proofs.lemmas.Nat.{div-add-mod'}
use Rattle.std.proofs.Math.Nat.{mul-le-mul_left}
use Rattle.ds_codec.specs.declared.size.Mode.{Mode}
use Rattle.ds_codec.specs.declared.size.Size.{Size}
use Rattle.ds_codec.specs.Geometry.{IsGood, cells_of}
use Rattle.ds_screen.specs.declared.lock.Lock.{Lock}
use Rattle.ds_screen.specs.declared.lock.Lock.TheVariants.{Free, Waiting, Error}
use Rattle.ds_screen.specs.Ring.{ring_on}
use Rattle.ds_screen.specs.Picture.{Picture, IsSound}
use Rattle.ds_screen.proofs.RingLaws.{on-zero, on_more, on_lt}
use Rattle.ds_keys.specs.declared.key.Key.{Key}
use Rattle.ds_keys.specs.declared.key.Key.TheVariants.{Right, Down}
use Rattle.ds_keys.specs.KeyStep.{step_of, step_under, free_step}
use Rattle.ds_keys.specs.KeyRuns.{after, after_key}
use Rattle.ds_inbound.proofs.Again.{sound_cursor}
use Rattle.cli_commands.proofs.DemoKeys.{in_parts, again}

-- the cursor at a position
abbrev put_at : Picture → ℕ → Picture
put_at v p = record v { cursor = p }

one_right : (v : Picture) → v.lock ≡ Free → after_key v Right ≡ put_at v (ring_on (length v.cells) v.cursor 1)
unfolding step_of free_step
one_right v free = ap (λ lock. (step_under lock v Right).after) free

one_down : (v : Picture) → v.lock ≡ Free → after_key v Down ≡ put_at v (ring_on (length v.cells) v.cursor v.size.cols)
unfolding step_of free_step
one_down v free = ap (λ lock. (step_under lock v Down).after) free

-- Right at most once for each position
moved_on : (v : Picture) (n : ℕ) → v.lock ≡ Free → v.cursor < length v.cells → n ≤ length v.cells
    → after v (replicate n Right) ≡ put_at v (ring_on (length v.cells) v.cursor n)
unfolding after
moved_on v zero free inside few = ap (put_at v) (sym (on-zero (length v.cells) v.cursor inside))
moved_on v (suc n) free inside few =
    let more : n + 1 ≡ suc n = omega arith in
    sym (again v Right n)
    ∙ ap (λ w. after_key w Right) (moved_on v n free inside (omega arith))
    ∙ one_right (put_at v (ring_on (length v.cells) v.cursor n)) free
    ∙ ap (put_at v) (on_more (length v.cells) v.cursor n inside (omega arith) ∙ ap (ring_on (length v.cells) v.cursor) more)

-- whole rows, on a free keyboard
by_rows : (v : Picture) (rows rest : ℕ) → v.lock ≡ Free → v.cursor < length v.cells → v.size.cols ≤ length v.cells
    → after v (replicate (rows * v.size.cols + rest) Right) ≡ after (after v (replicate rows Down)) (replicate rest Right)
unfolding after
by_rows v zero rest free inside few = let none : 0 * v.size.cols + rest ≡ rest = omega arith in ap (λ n. after v (replicate n Right)) none
by_rows v (suc rows) rest free inside few =
    let cols : ℕ = v.size.cols in
    let others : ℕ = rows * cols + rest in
    let below : Picture = put_at v (ring_on (length v.cells) v.cursor cols) in
    let whole : suc rows * cols + rest ≡ cols + others = omega arith in
    ap (λ n. after v (replicate n Right)) whole
    ∙ ap (after v) (sym (replicate-append-replicate cols others Right))
    ∙ in_parts v (replicate cols Right) (replicate others Right)
    ∙ ap (λ w. after w (replicate others Right)) (moved_on v cols free inside few)
    ∙ by_rows below rows rest free (on_lt (length v.cells) v.cursor cols inside few) few
    ∙ ap (λ w. after (after w (replicate rows Down)) (replicate rest Right)) (sym (one_down v free))

-- a key that leaves a picture as it is
stays : (v : Picture) (key : Key) (n : ℕ) → after_key v key ≡ v → after v (replicate n key) ≡ v
unfolding after
stays v key zero same = refl
stays v key (suc n) same = ap (λ w. after w (replicate n key)) same ∙ stays v key n same

both_stay : (v : Picture) (n rows rest : ℕ) → after_key v Right ≡ v → after_key v Down ≡ v
    → after v (replicate n Right) ≡ after (after v (replicate rows Down)) (replicate rest Right)
both_stay v n rows rest right down =
    stays v Right n right
    ∙ sym (ap (λ w. after w (replicate rest Right)) (stays v Down rows down) ∙ stays v Right rest right)

under : (lock : Lock) (v : Picture) (rows rest : ℕ) → v.lock ≡ lock → v.cursor < length v.cells → v.size.cols ≤ length v.cells
    → after v (replicate (rows * v.size.cols + rest) Right) ≡ after (after v (replicate rows Down)) (replicate rest Right)
unfolding step_of
under Free v rows rest is inside few = by_rows v rows rest is inside few
under Waiting v rows rest is inside few =
    both_stay v (rows * v.size.cols + rest) rows rest (ap (λ lock. (step_under lock v Right).after) is) (ap (λ lock. (step_under lock v Down).after) is)
under Error v rows rest is inside few =
    both_stay v (rows * v.size.cols + rest) rows rest (ap (λ lock. (step_under lock v Right).after) is) (ap (λ lock. (step_under lock v Down).after) is)

sound_size : (v : Picture) → IsSound v → IsGood v.geometry.mode v.size
sound_size v sound =
    elim sound.one_of_two [
      | inl same ↦ rw same sound.default_good
      | inr same ↦ rw same sound.alternate_good
    ]

pub some_columns : (v : Picture) → IsSound v → 0 < v.size.cols
some_columns v sound = omega (arith, (sound_size v sound).two_cols)

row_fits : (mode : Mode) (size : Size) → IsGood mode size → size.cols ≤ cells_of size
row_fits mode size good = omega (arith, mul-le-mul_left size.cols good.some_rows)

few_columns : (v : Picture) → IsSound v → v.size.cols ≤ length v.cells
few_columns v sound = omega (arith, sound.whole, row_fits v.geometry.mode v.size (sound_size v sound))

-- Down for each whole row, and Right for the rest
pub by_rows_and_rest : (v down next : Picture) (rights columns : ℕ) → IsSound v → columns ≡ v.size.cols
    → down ≡ after v (replicate (rights / columns) Down) → next ≡ after down (replicate (rights % columns) Right) → next ≡ after v (replicate rights Right)
by_rows_and_rest v down next rights columns sound is rows rest =
    rest
    ∙ ap (λ w. after w (replicate (rights % columns) Right)) rows
    ∙ ap (λ n. after (after v (replicate (rights / n) Down)) (replicate (rights % n) Right)) is
    ∙ sym (under v.lock v (rights / v.size.cols) (rights % v.size.cols) refl (sound_cursor v sound) (few_columns v sound))
    ∙ ap (λ n. after v (replicate n Right)) (div-add-mod' rights v.size.cols)
