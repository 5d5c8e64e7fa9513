-- Keys that lines name.
use Rattle.std.proofs.Common.{◌≡◌, ◌≤◌, ℕ, ◌+◌, Bool, true, false, cond, ltb, List, [], ◌∷◌, ◌++◌, length, Ok, Err, refl, sym, ap, ◌∙◌, arith, append_assoc, append-nil, length-append}
use Rattle.std.specs.Prelude.{Result}
use Rattle.std.specs.List.{flat_map, list_all}
use Rattle.std.proofs.lemmas.Bool.{ltb-false, le-ltb}
use Rattle.std.proofs.lemmas.List.Concat.{flat_map-cons}
use Rattle.ds_codec.proofs.Below.{both_true}
use Rattle.ds_codec.specs.Reading.{◌>>=◌}
use Rattle.ds_keys.specs.declared.key.Key.{Key}
use Rattle.cli_commands.specs.declared.fault.Fault.{Fault}
use Rattle.cli_commands.specs.declared.fault.Fault.TheVariants.{TooLong}
use Rattle.cli_commands.specs.Keys.{KeyLine, key_told, after_key_line, take_key}
use Rattle.cli_commands.specs.Keys as keys
use Rattle.cli_commands.specs.Says.{is_no_fault, key_of_line, NameKeys, KeysAreNamed}
use Rattle.cli_commands.specs.Taking.{taken}

abbrev good_line : List ℕ → Bool
good_line line = is_no_fault (key_told line)

abbrev key_in : List ℕ → List Key
key_in line = key_of_line (key_told line)

abbrev Named : List Key → List (List ℕ) → List Key → Type 0
Named before lines told = (list_all good_line lines ≡ true) × (told ≡ before ++ flat_map key_in lines) × (length told ≤ 100000)

-- ---- what is told is named

named_more : (before told : List Key) (key : Key) (line : List ℕ) (lines : List (List ℕ)) → key_told line ≡ keys.named key → Named (before ++ key ∷ []) lines told → Named before (line ∷ lines) told
named_more before told key line lines is (good, same, few) =
    (rw is good, same ∙ append_assoc before (key ∷ []) (flat_map key_in lines) ∙ ap (λ rest. before ++ rest) (sym (flat_map-cons key_in line lines ∙ ap (λ k. key_of_line k ++ flat_map key_in lines) is)), few)

ignored_more : (before told : List Key) (line : List ℕ) (lines : List (List ℕ)) → key_told line ≡ keys.ignored → Named before lines told → Named before (line ∷ lines) told
ignored_more before told line lines is (good, same, few) =
    (rw is good, same ∙ ap (λ rest. before ++ rest) (sym (flat_map-cons key_in line lines ∙ ap (λ k. key_of_line k ++ flat_map key_in lines) is)), few)

-- where there is room
abbrev room : Bool → Result (Unit {0}) Fault
room over = cond over (Err TooLong) (Ok tt)

limit : (before : List Key) (key : Key) (others : List Key → Result (List Key) Fault) (told : List Key) (P : Type 0)
    → ((room (ltb 100000 (length before + 1)) >>= λ few. Ok (before ++ key ∷ [])) >>= others) ≡ Ok told
    → (length before + 1 ≤ 100000 → others (before ++ key ∷ []) ≡ Ok told → P) → P
limit before key others told P is goes =
    elim (ltb 100000 (length before + 1)) as (λ t. ltb 100000 (length before + 1) ≡ t → ((room t >>= λ few. Ok (before ++ key ∷ [])) >>= others) ≡ Ok told → P) [
      | true ↦ λ test over. absurd cc
      | false ↦ λ test told. goes (ltb-false _ _ test) told
    ] refl is

named : (lines : List (List ℕ)) (number : ℕ) (before told : List Key) → length before ≤ 100000 → taken take_key number before lines ≡ Ok told → Named before lines told
named [] number before told few is =
    let same : before ≡ told = cc in
    (refl, sym same ∙ sym (append-nil before), rw (← same) few)
named (line ∷ lines) number before told few is =
    elim (key_told line) as (λ k. key_told line ≡ k → (after_key_line number before k >>= λ next. taken take_key (number + 1) next lines) ≡ Ok told → Named before (line ∷ lines) told) [
      | keys.ignored ↦ λ line_is rest. ignored_more before told line lines line_is (named lines (number + 1) before told few rest)
      | keys.named key ↦ λ line_is rest.
          limit before key (λ next. taken take_key (number + 1) next lines) told (Named before (line ∷ lines) told) rest
          (λ room goes. named_more before told key line lines line_is (named lines (number + 1) (before ++ key ∷ []) told (omega (arith, length-append before (key ∷ []))) goes))
      | keys.bad ↦ λ line_is rest. absurd cc
    ] refl is

-- ---- what is named is told

told_again : (lines : List (List ℕ)) (number : ℕ) (before : List Key) → list_all good_line lines ≡ true → length (before ++ flat_map key_in lines) ≤ 100000
    → taken take_key number before lines ≡ Ok (before ++ flat_map key_in lines)
told_again [] number before good few = rw (append-nil before) refl
told_again (line ∷ lines) number before good few =
    let both = both_true (good_line line) (list_all good_line lines) good in
    let others : List Key = flat_map key_in lines in
    let all : flat_map key_in (line ∷ lines) ≡ key_of_line (key_told line) ++ others = flat_map-cons key_in line lines in
    elim (key_told line) as (λ k. is_no_fault k ≡ true → flat_map key_in (line ∷ lines) ≡ key_of_line k ++ others
    → (after_key_line number before k >>= λ next. taken take_key (number + 1) next lines) ≡ Ok (before ++ flat_map key_in (line ∷ lines))) [
      | keys.ignored ↦ λ fine is. rw is (told_again lines (number + 1) before both.1 (rw is at few))
      | keys.named key ↦ λ fine is.
          let long : length (before ++ (key ∷ others)) ≤ 100000 = rw is at few in
          let room : ltb 100000 (length before + 1) ≡ false = le-ltb _ _ (omega (arith, long, length-append before (key ∷ others))) in
          let more : (before ++ key ∷ []) ++ others ≡ before ++ (key ∷ others) = append_assoc before (key ∷ []) others in
          rw (is, room) (told_again lines (number + 1) (before ++ key ∷ []) both.1 (rw more long) ∙ ap (λ (t : List Key). Ok t) more)
      | keys.bad ↦ λ wrong is. absurd cc
    ] both.0 all

pub keys_are_named : KeysAreNamed
keys_are_named lines told =
    (λ is. let n = named lines 1 [] told (omega arith) is in record { good = n.0; keys = n.1; few = n.2 }, λ (n : NameKeys lines told). let same = n.keys in rw same (told_again lines 1 [] n.good (rw same at n.few)))
