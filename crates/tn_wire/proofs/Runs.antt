-- Bytes taken in a row.
use Rattle.std.proofs.Common.{◌≡◌, ℕ, ◌<◌, ◌≤◌, List, [], ◌∷◌, ◌++◌, length, refl, sym, ◌∙◌, ap, subst, arith, append_assoc, length-append, Ok}
use Rattle.std.specs.Prelude.{Result}
use Rattle.std.proofs.lemmas.List.{append-nil}
use Rattle.std.proofs.lemmas.List.Concat.{flat_map-append}
use Rattle.tn_wire.specs.declared.event.WireFault.{WireFault}
use Rattle.tn_wire.specs.declared.open_token.Open.{Open}
use Rattle.tn_wire.specs.declared.open_token.Open.TheVariants.{Nothing, Told, Escape, Command, Start, StartEscape, Inside, InsideEscape}
use Rattle.tn_wire.specs.Telnet.{quoted, quoted_byte}
use Rattle.tn_wire.specs.Stream.{Told as ToldEvent, Tells}
use Rattle.tn_wire.specs.Calls.{Answers}
use Rattle.tn_wire.specs.Open.{content_of, open_bytes, open_data, GoesOn, TakesRun}
use Rattle.tn_wire.proofs.Streams.{partial_nothing}
use Rattle.tn_wire.proofs.Steps.{settled, takes_none, tells_none, answers_both}
use Rattle.tn_wire.proofs.Bytes.{partial_state}

data_bound : (d : List ℕ) (state : Open) → length d ≤ 32768 → length (open_data d state) ≤ 32768
data_bound d Told h = omega arith
data_bound d Nothing h = h
data_bound d Escape h = h
data_bound d (Command v) h = h
data_bound d Start h = h
data_bound d StartEscape h = h
data_bound d (Inside o) h = h
data_bound d (InsideEscape o) h = h

pub none_taken : (d ps : List ℕ) (state : Open) (input : List ℕ) → length d ≤ 32768 → length ps ≤ 256
    → GoesOn (content_of d ps state) input (content_of d ps state) input
none_taken d ps state input bound fits = record {
  taken = [];
  front = refl;
  answers =
      takes_none (open_data d state) (open_bytes ps state) (data_bound d state bound) (partial_state (open_data d state) ps state fits);
}

pub run_taken : (d new before after : List ℕ) → length new ≤ 32768 → TakesRun d before new after
    → GoesOn (quoted d ++ []) before (quoted new ++ []) after
run_taken d new before after bound p =
    let bytes : quoted new ++ [] ≡ (quoted d ++ []) ++ p.run =
    append-nil (quoted new) ∙ ap quoted p.added ∙ flat_map-append quoted_byte d p.run ∙ ap (λ z. quoted d ++ z) p.plain
    ∙ ap (λ z. z ++ p.run) (sym (append-nil (quoted d))) in
    record {
      taken = p.run;
      front = p.taken;
      answers =
          tells_none (quoted d ++ []) p.run (quoted new ++ [])
          (subst (λ z. Tells z [] (quoted new ++ [])) bytes (settled new [] bound (partial_nothing new)));
    }

pub both_taken : (old before mid between new after : List ℕ) → GoesOn old before mid between → GoesOn mid between new after
    → GoesOn old before new after
both_taken old before mid between new after a b = record {
  taken = a.taken ++ b.taken;
  front = a.front ∙ ap (λ z. a.taken ++ z) b.front ∙ sym (append_assoc a.taken b.taken after);
  answers = answers_both old a.taken mid b.taken new (Ok []) a.answers b.answers;
}

-- an answer to the next byte
pub record Next (old before : List ℕ) (events : Result (List ToldEvent) WireFault) (new after : List ℕ) : Type 0 where
  pub taken : List ℕ
  pub front : before ≡ taken ++ after
  pub answers : Answers old taken events new
  pub shorter : length after < length before

pub next_byte : (old before mid new after : List ℕ) (b : ℕ) (events : Result (List ToldEvent) WireFault)
    → GoesOn old before mid (b ∷ after) → Answers mid (b ∷ []) events new → Next old before events new after
next_byte old before mid new after b events a p = record {
  taken = a.taken ++ b ∷ [];
  front = a.front ∙ sym (append_assoc a.taken (b ∷ []) after);
  answers = answers_both old a.taken mid (b ∷ []) new events a.answers p;
  shorter = omega (arith, length-append a.taken (b ∷ after), ap length a.front);
}
