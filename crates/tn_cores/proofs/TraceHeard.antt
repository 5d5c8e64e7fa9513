-- What an event of either side does to what is agreed, by what the other end hears.
use Rattle.std.proofs.Common.{◌≡◌, ℕ, ◌==◌, ◌&&◌, Bool, true, false, cond, List, [], ◌∷◌, length, refl, sym, ◌∙◌, ap}
use Rattle.std.specs.Prelude.{slice_index}
use Rattle.std.proofs.lemmas.Bool.{and_parts, and_right, cond-false, cond_both, eqb-true}
use Rattle.tn_wire.specs.declared.codes.Verb.{Verb}
use Rattle.tn_wire.specs.declared.codes.Verb.TheVariants.{Will, Wont, Do, Dont}
use Rattle.tn_wire.specs.Stream.{Told as Event, told_record, told_verb, told_sub, told_passed}
use Rattle.tn_cores.specs.declared.option.TelnetOption.{TelnetOption}
use Rattle.tn_cores.specs.declared.option.TelnetOption.TheVariants.{Binary, TerminalType, EndOfRecord, Tn3270e, Other}
use Rattle.tn_cores.specs.Options.{option_of}
use Rattle.tn_cores.specs.Heard.{Heard, heard, verb_heard, sub_heard, type_heard, enhanced_heard, reject_heard, if_bare, naming, functions_in, hears_verb, hears_send_type, hears_type, hears_send_device, hears_device_request, hears_device, hears_device_reject, hears_functions_request, hears_functions, hears_bad, hears_nothing}
use Rattle.tn_traces.specs.declared.negotiated.Negotiated.{Negotiated}
use Rattle.tn_traces.specs.declared.negotiated.Negotiated.TheVariants as told
use Rattle.tn_traces.specs.declared.negotiated.Sender.{Sender}
use Rattle.tn_traces.specs.declared.negotiated.Sender.TheVariants.{Host, Terminal}
use Rattle.tn_traces.specs.Negotiated.{agreed, after_words, off_verb, turns_off, negotiated_after}

-- a verb that turns its option off
abbrev pub off_by : Negotiated → TelnetOption → Negotiated
off_by now Binary = now
off_by now TerminalType = now
off_by now EndOfRecord = now
off_by now Tn3270e = told.Classic
off_by now (Other code) = now

abbrev pub verb_by : Sender → Negotiated → Verb → TelnetOption → Negotiated
verb_by Host now Dont option = off_by now option
verb_by Host now verb option = now
verb_by Terminal now Wont option = off_by now option
verb_by Terminal now verb option = now
verb_by sender now verb option = now

abbrev pub device_by : Sender → Negotiated → Negotiated
device_by Host now = told.Named
device_by sender now = now

abbrev pub heard_by : Sender → Negotiated → Heard → Negotiated
heard_by sender now (hears_verb verb option) = verb_by sender now verb option
heard_by sender now (hears_device naming) = device_by sender now
heard_by sender now (hears_functions list) = agreed now
heard_by sender now other = now

-- ---- options
apart : (b : Bool) → b ≡ true → b ≡ false → ⊥
apart b is other = cc

other_off : (now : Negotiated) (code : ℕ) → (code == 40) ≡ false → off_by now (option_of code) ≡ now
other_off now code other =
    cond_both (code == 0) Binary _ (λ (o : TelnetOption). off_by now o ≡ now) (λ is. refl)
    (λ a. cond_both (code == 24) TerminalType _ (λ (o : TelnetOption). off_by now o ≡ now) (λ is. refl)
    (λ b. cond_both (code == 25) EndOfRecord _ (λ (o : TelnetOption). off_by now o ≡ now) (λ is. refl)
    (λ c. cond_both (code == 40) Tn3270e (Other code) (λ (o : TelnetOption). off_by now o ≡ now) (λ is. absurd (apart (code == 40) is other)) (λ d. refl))))

off_is : (now : Negotiated) (code : ℕ) → cond (code == 40) told.Classic now ≡ off_by now (option_of code)
off_is now code =
    cond_both (code == 40) told.Classic now (λ (n : Negotiated). n ≡ off_by now (option_of code))
    (λ is. sym (ap (λ (c : ℕ). off_by now (option_of c)) (eqb-true code 40 is)))
    (λ other. sym (other_off now code other))

-- ---- verbs
not_off : (sender : Sender) (now : Negotiated) (verb option : ℕ) → (verb == off_verb sender) ≡ false → cond (turns_off sender verb option) told.Classic now ≡ now
not_off sender now verb option other = cond-false (turns_off sender verb option) _ _ (and_right (option == 40) (verb == off_verb sender) other)

is_off : (sender : Sender) (now : Negotiated) (verb option : ℕ) → (verb == off_verb sender) ≡ true → cond (turns_off sender verb option) told.Classic now ≡ off_by now (option_of option)
is_off sender now verb option is =
    ap (λ (b : Bool). cond b told.Classic now) (and_true (option == 40) (verb == off_verb sender) is) ∙ off_is now option
  where
    and_true : (a b : Bool) → b ≡ true → (a && b) ≡ a
    and_true true b is = is
    and_true false b is = refl

abbrev VerbSame : Sender → Negotiated → ℕ → ℕ → Heard → Type 0
VerbSame sender now verb option h = cond (turns_off sender verb option) told.Classic now ≡ heard_by sender now h

test_at : (verb code off : ℕ) → (verb == code) ≡ true → (code == off) ≡ (verb == off)
test_at verb code off is = sym (ap (λ (n : ℕ). n == off) (eqb-true verb code is))

host_verb : (now : Negotiated) (verb option : ℕ) → VerbSame Host now verb option (verb_heard verb (option_of option))
host_verb now verb option =
    cond_both (verb == 251) (hears_verb Will (option_of option)) _ (VerbSame Host now verb option) (λ is. not_off Host now verb option (sym (test_at verb 251 254 is)))
    (λ a. cond_both (verb == 252) (hears_verb Wont (option_of option)) _ (VerbSame Host now verb option) (λ is. not_off Host now verb option (sym (test_at verb 252 254 is)))
    (λ b. cond_both (verb == 253) (hears_verb Do (option_of option)) _ (VerbSame Host now verb option) (λ is. not_off Host now verb option (sym (test_at verb 253 254 is)))
    (λ c. cond_both (verb == 254) (hears_verb Dont (option_of option)) hears_nothing (VerbSame Host now verb option) (λ is. is_off Host now verb option is)
    (λ d. not_off Host now verb option d))))

terminal_verb : (now : Negotiated) (verb option : ℕ) → VerbSame Terminal now verb option (verb_heard verb (option_of option))
terminal_verb now verb option =
    cond_both (verb == 251) (hears_verb Will (option_of option)) _ (VerbSame Terminal now verb option) (λ is. not_off Terminal now verb option (sym (test_at verb 251 252 is)))
    (λ a. cond_both (verb == 252) (hears_verb Wont (option_of option)) _ (VerbSame Terminal now verb option) (λ is. is_off Terminal now verb option is)
    (λ b. cond_both (verb == 253) (hears_verb Do (option_of option)) _ (VerbSame Terminal now verb option) (λ is. not_off Terminal now verb option (sym (test_at verb 253 252 is)))
    (λ c. cond_both (verb == 254) (hears_verb Dont (option_of option)) hears_nothing (VerbSame Terminal now verb option) (λ is. not_off Terminal now verb option b)
    (λ d. not_off Terminal now verb option b))))

-- ---- subnegotiations
bare_same : (sender : Sender) (now : Negotiated) (h : Heard) (rest : List ℕ) → heard_by sender now h ≡ now → heard_by sender now (if_bare h rest) ≡ now
bare_same sender now h rest same = cond_both (length rest == 0) h hears_bad (λ (x : Heard). heard_by sender now x ≡ now) (λ is. same) (λ other. refl)

type_same : (sender : Sender) (now : Negotiated) (words : List ℕ) → heard_by sender now (type_heard words) ≡ now
unfolding type_heard
type_same sender now [] = refl
type_same sender now (word ∷ rest) =
    cond_both (word == 0) (hears_type rest) _ (λ (x : Heard). heard_by sender now x ≡ now) (λ is. refl)
    (λ a. cond_both (word == 1) (if_bare hears_send_type rest) hears_bad (λ (x : Heard). heard_by sender now x ≡ now) (λ is. bare_same sender now hears_send_type rest refl)
    (λ b. refl))

reject_same : (sender : Sender) (now : Negotiated) (words : List ℕ) → heard_by sender now (reject_heard words) ≡ now
reject_same sender now words =
    cond_both (length words == 2 && slice_index words 0 == 5) (hears_device_reject (slice_index words 1)) hears_bad (λ (x : Heard). heard_by sender now x ≡ now) (λ is. refl) (λ other. refl)

-- words by their first two
words_at : (sender : Sender) (now : Negotiated) (first second a b : ℕ) (rest : List ℕ) → (first == a && second == b) ≡ true
    → after_words sender now (first ∷ second ∷ rest) ≡ after_words sender now (a ∷ b ∷ rest)
words_at sender now first second a b rest are =
    let both = and_parts (first == a) (second == b) are in
    ap (λ (n : ℕ). after_words sender now (n ∷ second ∷ rest)) (eqb-true first a both.0) ∙ ap (λ (n : ℕ). after_words sender now (a ∷ n ∷ rest)) (eqb-true second b both.1)

abbrev WordsSame : Sender → Negotiated → ℕ → ℕ → List ℕ → Heard → Type 0
WordsSame sender now first second rest h = after_words sender now (first ∷ second ∷ rest) ≡ heard_by sender now h

-- what the other words do is what the two sides have in common
module _ (sender : Sender) (now : Negotiated)
    (send_device : (rest : List ℕ) → after_words sender now (8 ∷ 2 ∷ rest) ≡ now) (device_request : (rest : List ℕ) → after_words sender now (2 ∷ 7 ∷ rest) ≡ now)
    (device_is : (rest : List ℕ) → after_words sender now (2 ∷ 4 ∷ rest) ≡ device_by sender now) (device_reject : (rest : List ℕ) → after_words sender now (2 ∷ 6 ∷ rest) ≡ now)
    (functions_request : (rest : List ℕ) → after_words sender now (3 ∷ 7 ∷ rest) ≡ now) (functions_are : (rest : List ℕ) → after_words sender now (3 ∷ 4 ∷ rest) ≡ agreed now)
    (others : (first second : ℕ) (rest : List ℕ) → (first == 2 && second == 4) ≡ false → (first == 3 && second == 4) ≡ false → after_words sender now (first ∷ second ∷ rest) ≡ now) where
  words_same : (first second : ℕ) (rest : List ℕ) → WordsSame sender now first second rest (enhanced_heard (first ∷ second ∷ rest))
  unfolding enhanced_heard
  words_same first second rest =
      cond_both (first == 8 && second == 2) (if_bare hears_send_device rest) _ (WordsSame sender now first second rest)
      (λ is. words_at sender now first second 8 2 rest is ∙ send_device rest ∙ sym (bare_same sender now hears_send_device rest refl))
      (λ a. cond_both (first == 2 && second == 7) (hears_device_request (naming rest)) _ (WordsSame sender now first second rest)
      (λ is. words_at sender now first second 2 7 rest is ∙ device_request rest)
      (λ b. cond_both (first == 2 && second == 4) (hears_device (naming rest)) _ (WordsSame sender now first second rest)
      (λ is. words_at sender now first second 2 4 rest is ∙ device_is rest)
      (λ c. cond_both (first == 2 && second == 6) (reject_heard rest) _ (WordsSame sender now first second rest)
      (λ is. words_at sender now first second 2 6 rest is ∙ device_reject rest ∙ sym (reject_same sender now rest))
      (λ d. cond_both (first == 3 && second == 7) (hears_functions_request (functions_in rest)) _ (WordsSame sender now first second rest)
      (λ is. words_at sender now first second 3 7 rest is ∙ functions_request rest)
      (λ e. cond_both (first == 3 && second == 4) (hears_functions (functions_in rest)) hears_bad (WordsSame sender now first second rest)
      (λ is. words_at sender now first second 3 4 rest is ∙ functions_are rest)
      (λ f. others first second rest c f))))))

  enhanced_same : (words : List ℕ) → after_words sender now words ≡ heard_by sender now (enhanced_heard words)
  unfolding enhanced_heard
  enhanced_same [] = refl
  enhanced_same (first ∷ []) = refl
  enhanced_same (first ∷ second ∷ rest) = words_same first second rest

  sub_same : (option : ℕ) (words : List ℕ) → cond (option == 40) (after_words sender now words) now ≡ heard_by sender now (sub_heard (option_of option) words)
  sub_same option words =
      cond_both (option == 40) (after_words sender now words) now (λ (n : Negotiated). n ≡ heard_by sender now (sub_heard (option_of option) words))
      (λ is. enhanced_same words ∙ sym (ap (λ (c : ℕ). heard_by sender now (sub_heard (option_of c) words)) (eqb-true option 40 is)))
      (λ other. sym (other_sub option words other))
    where
      other_sub : (option : ℕ) (words : List ℕ) → (option == 40) ≡ false → heard_by sender now (sub_heard (option_of option) words) ≡ now
      other_sub option words other =
          cond_both (option == 0) Binary _ (λ (o : TelnetOption). heard_by sender now (sub_heard o words) ≡ now) (λ is. refl)
          (λ a. cond_both (option == 24) TerminalType _ (λ (o : TelnetOption). heard_by sender now (sub_heard o words) ≡ now) (λ is. type_same sender now words)
          (λ b. cond_both (option == 25) EndOfRecord _ (λ (o : TelnetOption). heard_by sender now (sub_heard o words) ≡ now) (λ is. refl)
          (λ c. cond_both (option == 40) Tn3270e (Other option) (λ (o : TelnetOption). heard_by sender now (sub_heard o words) ≡ now) (λ is. absurd (apart (option == 40) is other)) (λ d. refl))))

-- ---- an event
neither_host : (now : Negotiated) (first second : ℕ) (rest : List ℕ) → (first == 2 && second == 4) ≡ false → (first == 3 && second == 4) ≡ false
    → after_words Host now (first ∷ second ∷ rest) ≡ now
neither_host now first second rest device functions = cond-false (first == 2 && second == 4) _ _ device ∙ cond-false (first == 3 && second == 4) _ _ functions

neither_terminal : (now : Negotiated) (first second : ℕ) (rest : List ℕ) → (first == 2 && second == 4) ≡ false → (first == 3 && second == 4) ≡ false
    → after_words Terminal now (first ∷ second ∷ rest) ≡ now
neither_terminal now first second rest device functions = cond-false (first == 3 && second == 4) _ _ functions

pub host_said : (now : Negotiated) (event : Event) → negotiated_after Host now event ≡ heard_by Host now (heard event)
host_said now (told_record bytes) = refl
host_said now (told_verb verb option) = host_verb now verb option
host_said now (told_sub option words) =
    sub_same Host now (λ rest. refl) (λ rest. refl) (λ rest. refl) (λ rest. refl) (λ rest. refl) (λ rest. refl) (neither_host now) option words
host_said now (told_passed byte) = refl

pub terminal_said : (now : Negotiated) (event : Event) → negotiated_after Terminal now event ≡ heard_by Terminal now (heard event)
terminal_said now (told_record bytes) = refl
terminal_said now (told_verb verb option) = terminal_verb now verb option
terminal_said now (told_sub option words) =
    sub_same Terminal now (λ rest. refl) (λ rest. refl) (λ rest. refl) (λ rest. refl) (λ rest. refl) (λ rest. refl) (neither_terminal now) option words
terminal_said now (told_passed byte) = refl

-- an option that is named by its code is none of the four
abbrev pub IsOther : TelnetOption → Type 0
IsOther (Other code) = (code == 40) ≡ false
IsOther option = Unit {0}

abbrev pub NamesOther : Heard → Type 0
NamesOther (hears_verb verb option) = IsOther option
NamesOther h = Unit {0}

option_other : (code : ℕ) → IsOther (option_of code)
option_other code =
    cond_both (code == 0) Binary _ IsOther (λ is. tt)
    (λ a. cond_both (code == 24) TerminalType _ IsOther (λ is. tt)
    (λ b. cond_both (code == 25) EndOfRecord _ IsOther (λ is. tt) (λ c. cond_both (code == 40) Tn3270e (Other code) IsOther (λ is. tt) (λ d. d))))

bare_other : (h : Heard) (rest : List ℕ) → NamesOther h → NamesOther (if_bare h rest)
bare_other h rest names = cond_both (length rest == 0) h hears_bad NamesOther (λ is. names) (λ other. tt)

type_other : (words : List ℕ) → NamesOther (type_heard words)
unfolding type_heard
type_other [] = tt
type_other (word ∷ rest) =
    cond_both (word == 0) (hears_type rest) _ NamesOther (λ is. tt)
    (λ a. cond_both (word == 1) (if_bare hears_send_type rest) hears_bad NamesOther (λ is. bare_other hears_send_type rest tt) (λ b. tt))

reject_other : (words : List ℕ) → NamesOther (reject_heard words)
reject_other words =
    cond_both (length words == 2 && slice_index words 0 == 5) (hears_device_reject (slice_index words 1)) hears_bad NamesOther (λ is. tt) (λ other. tt)

enhanced_other : (words : List ℕ) → NamesOther (enhanced_heard words)
unfolding enhanced_heard
enhanced_other [] = tt
enhanced_other (first ∷ []) = tt
enhanced_other (first ∷ second ∷ rest) =
    cond_both (first == 8 && second == 2) (if_bare hears_send_device rest) _ NamesOther (λ is. bare_other hears_send_device rest tt)
    (λ a. cond_both (first == 2 && second == 7) (hears_device_request (naming rest)) _ NamesOther (λ is. tt)
    (λ b. cond_both (first == 2 && second == 4) (hears_device (naming rest)) _ NamesOther (λ is. tt)
    (λ c. cond_both (first == 2 && second == 6) (reject_heard rest) _ NamesOther (λ is. reject_other rest)
    (λ d. cond_both (first == 3 && second == 7) (hears_functions_request (functions_in rest)) _ NamesOther (λ is. tt)
    (λ e. cond_both (first == 3 && second == 4) (hears_functions (functions_in rest)) hears_bad NamesOther (λ is. tt) (λ f. tt))))))

sub_other : (option : TelnetOption) (words : List ℕ) → NamesOther (sub_heard option words)
sub_other Binary words = tt
sub_other TerminalType words = type_other words
sub_other EndOfRecord words = tt
sub_other Tn3270e words = enhanced_other words
sub_other (Other code) words = tt

verb_other : (verb : ℕ) (option : TelnetOption) → IsOther option → NamesOther (verb_heard verb option)
verb_other verb option names =
    cond_both (verb == 251) (hears_verb Will option) _ NamesOther (λ is. names)
    (λ a. cond_both (verb == 252) (hears_verb Wont option) _ NamesOther (λ is. names)
    (λ b. cond_both (verb == 253) (hears_verb Do option) _ NamesOther (λ is. names)
    (λ c. cond_both (verb == 254) (hears_verb Dont option) hears_nothing NamesOther (λ is. names) (λ d. tt))))

pub heard_other : (event : Event) → NamesOther (heard event)
heard_other (told_record bytes) = tt
heard_other (told_verb verb option) = verb_other verb (option_of option) (option_other option)
heard_other (told_sub option words) = sub_other (option_of option) words
heard_other (told_passed byte) = tt
