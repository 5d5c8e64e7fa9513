-- What each byte does to the token that is open.
use Rattle.std.proofs.Common.{◌≡◌, ℕ, zero, suc, take, drop, get_or, length-drop, ◌<◌, ◌≤◌, List, [], ◌∷◌, ◌++◌, length, refl, sym, ◌∙◌, ap, subst, ⊎_elim, arith, append_assoc, length-append, Ok, Err, None, true, false}
use Rattle.std.specs.Prelude.{Result, Option, eqb, ◌||◌}
use Rattle.std.proofs.lemmas.List.{append-nil, take-append-drop, get_or-drop}
use Rattle.std.proofs.lemmas.List.Concat.{flat_map-append}
use Rattle.std.proofs.lemmas.Bool.{cases_lt, ne_eqb, or_from, not_from_false}
use Rattle.tn_wire.specs.declared.event.WireFault.{WireFault}
use Rattle.tn_wire.specs.declared.event.WireFault.TheVariants.{RecordTooLong, SubTooLong}
use Rattle.tn_wire.specs.declared.codes.Verb.{Verb}
use Rattle.tn_wire.specs.declared.codes.Verb.TheVariants.{Will, Wont, Do, Dont}
use Rattle.tn_wire.specs.declared.open_token.Open.{Open}
use Rattle.tn_wire.specs.declared.open_token.Open.TheVariants.{Nothing, Told, Escape, Command, Start, StartEscape, Inside, InsideEscape}
use Rattle.tn_wire.specs.declared.open_token.Found.{Found}
use Rattle.tn_wire.specs.Verbs.{verb_code, is_verb}
use Rattle.tn_wire.specs.Telnet.{data_byte, record_end, command, subnegotiation, passed, quoted, quoted_byte, has_meaning, IsPartial}
use Rattle.tn_wire.specs.Stream.{told_passed}
use Rattle.tn_wire.specs.Calls.{Answers}
use Rattle.tn_wire.specs.Open.{open_bytes, TakesByte}
use Rattle.tn_wire.proofs.Streams.{partial_nothing}
use Rattle.tn_wire.proofs.Steps.{stays, completes, breaks}

pub quoted-push : (xs : List ℕ) (b : ℕ) → quoted (xs ++ b ∷ []) ≡ quoted xs ++ quoted_byte b
quoted-push xs b = flat_map-append quoted_byte xs (b ∷ []) ∙ ap (λ z. quoted xs ++ z) (append-nil (quoted_byte b))

-- a byte that is no IAC
pub once : (b : ℕ) → (b ≡ 255 → ⊥) → b ∷ [] ≡ quoted_byte b
once b apart = let e = ne_eqb b 255 apart in rw e refl

pub verb_is : (v : Verb) → is_verb (verb_code v) ≡ true
verb_is Will = refl
verb_is Wont = refl
verb_is Do = refl
verb_is Dont = refl

-- what is open is always less than a token
pub partial_state : (d ps : List ℕ) (state : Open) → length ps ≤ 256 → IsPartial d (open_bytes ps state)
partial_state d ps Nothing h = partial_nothing d
partial_state d ps Told h = partial_nothing d
partial_state d ps Escape h = record { token = record_end; more = 239 ∷ []; comes = tt; longer = omega arith; spelled = refl }
partial_state d ps (Command v) h =
    record { token = command (verb_code v) 0; more = 0 ∷ []; comes = verb_is v; longer = omega arith; spelled = refl }
partial_state d ps Start h =
    record { token = subnegotiation 0 []; more = 0 ∷ 255 ∷ 240 ∷ []; comes = omega arith; longer = omega arith; spelled = refl }
partial_state d ps StartEscape h =
    record { token = subnegotiation 255 []; more = 255 ∷ 255 ∷ 240 ∷ []; comes = omega arith; longer = omega arith; spelled = refl }
partial_state d ps (Inside o) h =
    record { token = subnegotiation o ps; more = 255 ∷ 240 ∷ []; comes = h; longer = omega arith; spelled = refl }
partial_state d ps (InsideEscape o) h = record {
  token = subnegotiation o ps;
  more = 240 ∷ [];
  comes = h;
  longer = omega arith;
  spelled = sym (ap (λ z. 255 ∷ 250 ∷ z) (append_assoc (quoted (o ∷ ps)) (255 ∷ []) (240 ∷ [])));
}

module _ (d ps : List ℕ) (byte : ℕ) (bound : length d ≤ 32768) (fits : length ps ≤ 256) where
  -- the byte goes on with the token
  pub goes_on : (before after : Open) → open_bytes ps before ++ byte ∷ [] ≡ open_bytes ps after
      → Answers (quoted d ++ open_bytes ps before) (byte ∷ []) (Ok []) (quoted d ++ open_bytes ps after)
  goes_on before after e =
      stays d (open_bytes ps before) byte bound (partial_state d ps before fits) (open_bytes ps after) (partial_state d ps after fits) e

  -- a data byte
  pub data_taken : (before : Open) (b : ℕ) (new any : List ℕ) (result : Result (Open × Option Found) WireFault)
      → open_bytes ps before ++ byte ∷ [] ≡ quoted_byte b
      → (length d < 32768 → (result ≡ Ok (Nothing, None)) × (new ≡ d ++ b ∷ []))
      → (32768 ≤ length d → (result ≡ Err RecordTooLong) × (new ≡ d))
      → TakesByte (quoted d ++ open_bytes ps before) byte new any result
  data_taken before b new any result e room full =
      let old : List ℕ = quoted d ++ open_bytes ps before in
      ⊎_elim
      (λ (h : length d < 32768).
      subst (λ z. TakesByte old byte new any z) (sym (room h).0)
      (subst (λ z. Answers old (byte ∷ []) (Ok []) (quoted z ++ [])) (sym (room h).1)
      (completes d (open_bytes ps before) byte bound (partial_state d ps before fits) (data_byte b) h e)))
      (λ (h : 32768 ≤ length d).
      subst (λ z. TakesByte old byte new any z) (sym (full h).0)
      (breaks d (open_bytes ps before) byte bound (partial_state d ps before fits) RecordTooLong (b, h, e)))
      (cases_lt (length d) 32768)

  -- a byte of a subnegotiation
  pub parameter_taken : (before : Open) (o b : ℕ) (new : List ℕ) (result : Result (Open × Option Found) WireFault)
      → open_bytes ps before ++ byte ∷ [] ≡ 255 ∷ 250 ∷ (quoted (o ∷ ps) ++ quoted_byte b)
      → (length ps < 256 → (result ≡ Ok (Inside o, None)) × (new ≡ ps ++ b ∷ []))
      → (256 ≤ length ps → (result ≡ Err SubTooLong) × (new ≡ ps))
      → TakesByte (quoted d ++ open_bytes ps before) byte d new result
  parameter_taken before o b new result e room full =
      let old : List ℕ = quoted d ++ open_bytes ps before in
      let longer : List ℕ = ps ++ b ∷ [] in
      ⊎_elim
      (λ (h : length ps < 256).
      let short : length longer ≤ 256 = omega (arith, length-append ps (b ∷ [])) in
      let bytes : open_bytes ps before ++ byte ∷ [] ≡ 255 ∷ 250 ∷ quoted (o ∷ longer) =
      e ∙ ap (λ z. 255 ∷ 250 ∷ z)
      (append_assoc (quoted_byte o) (quoted ps) (quoted_byte b) ∙ ap (λ z. quoted_byte o ++ z) (sym (quoted-push ps b))) in
      subst (λ z. TakesByte old byte d new z) (sym (room h).0)
      (subst (λ z. Answers old (byte ∷ []) (Ok []) (quoted d ++ (255 ∷ 250 ∷ quoted (o ∷ z)))) (sym (room h).1)
      (stays d (open_bytes ps before) byte bound (partial_state d ps before fits) (255 ∷ 250 ∷ quoted (o ∷ longer))
      (partial_state d longer (Inside o) short) bytes)))
      (λ (h : 256 ≤ length ps).
      let exact : length ps ≡ 256 = omega arith in
      subst (λ z. TakesByte old byte d new z) (sym (full h).0)
      (breaks d (open_bytes ps before) byte bound (partial_state d ps before fits) SubTooLong (o, ps, b, exact, e)))
      (cases_lt (length ps) 256)

-- IAC and a code that is none of those with a meaning
pub passed_taken : (d : List ℕ) (byte : ℕ) → length d ≤ 32768 → (byte ≡ 255 → ⊥) → (byte ≡ 239 → ⊥) → (byte ≡ 250 → ⊥)
    → is_verb byte ≡ false → Answers (quoted d ++ 255 ∷ []) (byte ∷ []) (Ok (told_passed byte ∷ [])) (quoted d ++ [])
passed_taken d byte bound iac eor sb verb =
    let apart : has_meaning byte ≡ false =
    or_from (eqb byte 255 || eqb byte 239 || eqb byte 250) (is_verb byte)
    (or_from (eqb byte 255 || eqb byte 239) (eqb byte 250)
    (or_from (eqb byte 255) (eqb byte 239) (ne_eqb byte 255 iac) (ne_eqb byte 239 eor)) (ne_eqb byte 250 sb)) verb in
    completes d (255 ∷ []) byte bound (partial_state d [] Escape (omega arith)) (passed byte) (not_from_false (has_meaning byte) apart) refl

-- an option, whatever the parameters before it were
pub option_taken : (d : List ℕ) (byte o : ℕ) → length d ≤ 32768 → (before : Open) (new : List ℕ) → new ≡ []
    → open_bytes [] before ++ byte ∷ [] ≡ 255 ∷ 250 ∷ quoted_byte o
    → Answers (quoted d ++ open_bytes [] before) (byte ∷ []) (Ok []) (quoted d ++ open_bytes new (Inside o))
option_taken d byte o bound before new none e =
    subst (λ z. Answers (quoted d ++ open_bytes [] before) (byte ∷ []) (Ok []) (quoted d ++ open_bytes z (Inside o))) (sym none)
    (goes_on d [] byte bound (omega arith) before (Inside o) (e ∙ ap (λ z. 255 ∷ 250 ∷ z) (sym (append-nil (quoted_byte o)))))

-- a run with no IAC in it is spelled as it is
pub quoted_run : (n : ℕ) (xs : List ℕ) → ((k : ℕ) → k < n → get_or xs k 0 ≡ 255 → ⊥) → quoted (take n xs) ≡ take n xs
quoted_run zero xs apart = refl
quoted_run (suc n) [] apart = refl
quoted_run (suc n) (x ∷ xs) apart =
    ap (λ z. quoted_byte x ++ z) (quoted_run n xs (λ k h. apart (suc k) (omega arith)))
    ∙ ap (λ z. z ++ take n xs) (sym (once x (apart 0 (omega arith))))

-- a run with no IAC in it, and what follows
module _ (n : ℕ) (xs : List ℕ) (apart : (k : ℕ) → k < n → get_or xs k 0 ≡ 255 → ⊥) where
  quoted_cut : quoted xs ≡ take n xs ++ quoted (drop n xs)
  quoted_cut =
      ap quoted (sym (take-append-drop n xs)) ∙ flat_map-append quoted_byte (take n xs) (drop n xs)
      ∙ ap (λ z. z ++ quoted (drop n xs)) (quoted_run n xs apart)

  pub quoted_end : drop n xs ≡ [] → take n xs ≡ quoted xs
  quoted_end e = sym (quoted_cut ∙ ap (λ z. take n xs ++ quoted z) e ∙ append-nil (take n xs))

  pub quoted_on : (b : ℕ) (rest : List ℕ) → drop n xs ≡ b ∷ rest → (n < length xs → get_or xs n 0 ≡ 255)
      → take n xs ++ (255 ∷ 255 ∷ quoted rest) ≡ quoted xs
  quoted_on b rest e stops =
      let within : n < length xs = omega (arith, length-drop n xs, ap length e) in
      let here : b ≡ get_or xs n 0 =
      ap (λ z. get_or z 0 0) (sym e) ∙ get_or-drop n xs 0 0 ∙ ap (λ k. get_or xs k 0) (omega arith) in
      let iac : b ≡ 255 = here ∙ stops within in
      sym (quoted_cut ∙ ap (λ z. take n xs ++ quoted z) (e ∙ ap (λ z. z ∷ rest) iac))
