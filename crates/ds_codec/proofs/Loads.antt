-- How many bytes of a load come before the first that is below 40.
use Rattle.std.proofs.Common.{◌≡◌, ◌<◌, ◌≤◌, ◌+◌, ◌%◌, ◌^◌, ℕ, List, Bool, true, not, ltb, cond, length, get_or, map, replicate, refl, sym, ◌∙◌, arith, w8}
use Rattle.std.proofs.lemmas.Bool.{le-leb, ltb-false}
use Rattle.std.proofs.lemmas.Simd.{length-chunk, bitmask_splat, leading_from_mask_l, trailing_mask_l, run_in_chunk_le, run_in_chunk_fails}
use Rattle.std.specs.List.{prefix_len}
use lib.Lanes.{chunk, mask_l, zip2, top}
use lib.Count.{count_trailing_zeros}
use Rattle.ds_codec.specs.Character.{is_text}

-- a byte of 40 or above is text
pub graphic : (byte : ℕ) → 64 ≤ byte → byte ≤ 255 → is_text byte ≡ true
unfolding is_text
graphic byte above below =
    let least = le-leb 64 byte above in
    let most = le-leb byte 255 below in
    rw (least, most) refl

module _ (bytes : List ℕ) (at : ℕ) (room : at + 32 ≤ length bytes) where
  abbrev is_below : ℕ → Bool
  is_below byte = ltb byte 64

  abbrev load : List ℕ
  load = chunk at 32 bytes

  -- the bits of those that are below
  abbrev pub mask : ℕ
  mask = mask_l (map (top 7) (zip2 (λ a b. cond (ltb a b) 255 0) load (replicate 32 64))) % 2 ^ 64

  spread : mask ≡ mask_l (map is_below load)
  spread = bitmask_splat w8 ltb load 32 64 (length-chunk at 32 bytes room) (omega arith)

  counted_none : mask ≡ 0 → 32 ≡ prefix_len (λ b. not (is_below b)) load
  counted_none none = sym (leading_from_mask_l is_below load (sym spread ∙ none) ∙ length-chunk at 32 bytes room)

  counted_some : 0 < mask → count_trailing_zeros 64 mask ≡ prefix_len (λ b. not (is_below b)) load
  counted_some some =
      rw spread (trailing_mask_l is_below 64 load (omega (arith, length-chunk at 32 bytes room)) (omega (arith, some, spread)))

  passed : (r : ℕ) → r ≡ prefix_len (λ b. not (is_below b)) load → ((k : ℕ) → get_or bytes k 0 ≤ 255)
      → (k : ℕ) → at ≤ k → k < at + r → is_text (get_or bytes k 0) ≡ true
  passed r counted small k from to = graphic _ (ltb-false _ _ (run_in_chunk_fails is_below bytes at 32 r 0 room counted k from to)) (small k)

  pub all_pass : mask ≡ 0 → ((k : ℕ) → get_or bytes k 0 ≤ 255) → (k : ℕ) → at ≤ k → k < at + 32 → is_text (get_or bytes k 0) ≡ true
  all_pass none = passed 32 (counted_none none)

  pub some_pass : 0 < mask → ((k : ℕ) → get_or bytes k 0 ≤ 255) → (k : ℕ) → at ≤ k → k < at + count_trailing_zeros 64 mask → is_text (get_or bytes k 0) ≡ true
  some_pass some = passed _ (counted_some some)

  pub no_more : 0 < mask → count_trailing_zeros 64 mask ≤ 32
  no_more some = run_in_chunk_le is_below bytes at 32 _ 0 room (counted_some some)
