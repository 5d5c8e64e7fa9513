-- Each call leaves a way faithful.
use Rattle.std.proofs.Common.{ℕ, List, [], ◌++◌, take, drop, refl, sym, ◌≡◌, ◌∙◌, ap, subst, ◌≤◌, ◌<◌, arith, length, zero, suc, true, false}
use Rattle.std.specs.Prelude.{Bool}
use Rattle.std.proofs.lemmas.List.{take-append-drop, take-append-le, append_assoc, length-append, length-drop, length-take-le}
use Rattle.std.proofs.lemmas.Bool.{true≢false}
use Rattle.tn_relay.specs.declared.line.Gave.{Gave}
use Rattle.tn_relay.specs.declared.line.Gave.TheVariants.{Bytes as GaveBytes, Nothing as GaveNothing, End}
use Rattle.tn_relay.specs.declared.line.Took.{Took}
use Rattle.tn_relay.specs.declared.line.Took.TheVariants.{Bytes as TookBytes, Nothing as TookNothing, Failed}
use Rattle.tn_traces.specs.declared.line.Side.{Side}
use Rattle.tn_traces.specs.declared.line.Side.TheVariants.{Host, Terminal}
use Rattle.tn_relay.specs.Relayed.{Way, Relayed, way_from, way_to, IsFaithful, Gains, Gives, Reads, Writes, TellsEnd, Held, way_of}

-- what stands at the front of a part stands at the front of the whole
pub front_taken : (n : ℕ) (xs ys : List ℕ) → n ≤ length xs → take n xs ≡ take n (xs ++ ys)
front_taken n xs ys few = sym (take-append-le n xs ys few)

abbrev nothing : List ℕ
nothing = []

drop_none : (n : ℕ) → drop n nothing ≡ nothing
drop_none zero = refl
drop_none (suc n) = refl

-- where all was dropped, so many there were at most
pub all_dropped : (n : ℕ) (xs : List ℕ) → drop n xs ≡ [] → length xs ≤ n
all_dropped n xs none = omega (arith, ap length none, length-drop n xs)

nonempty_taken : (n : ℕ) (xs ys : List ℕ) → 0 < n → n ≤ length xs → ys ++ take n xs ≡ [] → ⊥
nonempty_taken n xs ys some few none = omega (arith, ap length none, length-append ys (take n xs), length-take-le n xs few)

pub read_faithful : (old : Way) (piece : List ℕ) (gave : Gave) (new : Way) → Reads old piece gave new → IsFaithful old → IsFaithful new
read_faithful old piece gave new reads f = gain_faithful old piece gave new reads.0 f where
  gain_faithful : (old : Way) (piece : List ℕ) (gave : Gave) (new : Way) → Gains old piece gave new → IsFaithful old → IsFaithful new
  gain_faithful old piece (GaveBytes count) new gains f = subst IsFaithful (sym gains.3) (record {
    whole = ap (λ z. z ++ take count piece) f.whole ∙ append_assoc old.written old.bytes (take count piece);
    ended = f.ended;
    all = λ told. absurd (true≢false (sym (f.ended told) ∙ gains.2));
    roomy = λ none. absurd (nonempty_taken count piece old.bytes gains.0 gains.1 none);
  })
  gain_faithful old piece GaveNothing new gains f =
      subst IsFaithful (sym gains) (record { whole = f.whole; ended = f.ended; all = f.all; roomy = f.roomy })
  gain_faithful old piece End new gains f =
      subst IsFaithful (sym gains) (record { whole = f.whole; ended = λ told. refl; all = f.all; roomy = f.roomy })

pub write_faithful : (old : Way) (took : Took) (new : Way) → Writes old took new → IsFaithful old → IsFaithful new
write_faithful old took new writes f = give_faithful old took new writes.0 f where
  give_faithful : (old : Way) (took : Took) (new : Way) → Gives old took new → IsFaithful old → IsFaithful new
  give_faithful old (TookBytes count) new gives f = subst IsFaithful (sym gives.2) (record {
    whole = f.whole ∙ sym (append_assoc old.written (take count old.bytes) (drop count old.bytes) ∙ ap (λ z. old.written ++ z) (take-append-drop count old.bytes));
    ended = f.ended;
    all = λ told. ap (λ z. drop count z) (f.all told) ∙ drop_none count;
    roomy = λ none. gives.3 (ap (λ w. w.bytes) gives.2 ∙ none);
  })
  give_faithful old TookNothing new gives f =
      subst IsFaithful (sym gives) (record { whole = f.whole; ended = f.ended; all = f.all; roomy = f.roomy })
  give_faithful old Failed new gives f =
      subst IsFaithful (sym gives) (record { whole = f.whole; ended = f.ended; all = f.all; roomy = f.roomy })

pub end_faithful : (old : Way) (told : Bool) (new : Way) → TellsEnd old told new → IsFaithful old → IsFaithful new
end_faithful old true new tells f =
    subst IsFaithful (sym tells.2) (record { whole = f.whole; ended = λ told. tells.0; all = λ told. tells.1; roomy = f.roomy })
end_faithful old false new tells f = subst IsFaithful (sym tells.0) f

-- a way of which its lines show the same is as faithful
pub same_written : (read : List ℕ) (held : Held) (old new : List ℕ) (told told_new : Bool) (gave : List Gave) (took took_new : List Took)
    → new ≡ old → told_new ≡ told → took_new ≡ took
    → IsFaithful (way_of read held old told gave took) → IsFaithful (way_of read held new told_new gave took_new)
same_written read held old new told told_new gave took took_new e e' e'' f = rw e (rw e' (rw e'' f))

pub same_read : (old new : List ℕ) (held : Held) (written : List ℕ) (told : Bool) (gave gave_new : List Gave) (took : List Took)
    → new ≡ old → gave_new ≡ gave
    → IsFaithful (way_of old held written told gave took) → IsFaithful (way_of new held written told gave_new took)
same_read old new held written told gave gave_new took e e' f = rw e (rw e' f)

-- what a read or a write of a side's line did, as what it did of the way of the side
pub reads_host : (side : Side) (shown seen new : Relayed) (piece : List ℕ) (gave : Gave) → side ≡ Host → seen ≡ shown
    → Reads seen.to_terminal piece gave new.to_terminal → Reads (way_from side shown) piece gave (way_from side new)
reads_host side shown seen new piece gave at is reads =
    subst (λ s. Reads (way_from s shown) piece gave (way_from s new)) (sym at) (subst (λ v. Reads v.to_terminal piece gave new.to_terminal) is reads)

pub reads_terminal : (side : Side) (shown seen new : Relayed) (piece : List ℕ) (gave : Gave) → side ≡ Terminal → seen ≡ shown
    → Reads seen.to_host piece gave new.to_host → Reads (way_from side shown) piece gave (way_from side new)
reads_terminal side shown seen new piece gave at is reads =
    subst (λ s. Reads (way_from s shown) piece gave (way_from s new)) (sym at) (subst (λ v. Reads v.to_host piece gave new.to_host) is reads)

pub writes_host : (side : Side) (shown seen new : Relayed) (took : Took) → side ≡ Host → seen ≡ shown
    → Writes seen.to_host took new.to_host → Writes (way_to side shown) took (way_to side new)
writes_host side shown seen new took at is writes =
    subst (λ s. Writes (way_to s shown) took (way_to s new)) (sym at) (subst (λ v. Writes v.to_host took new.to_host) is writes)

pub writes_terminal : (side : Side) (shown seen new : Relayed) (took : Took) → side ≡ Terminal → seen ≡ shown
    → Writes seen.to_terminal took new.to_terminal → Writes (way_to side shown) took (way_to side new)
writes_terminal side shown seen new took at is writes =
    subst (λ s. Writes (way_to s shown) took (way_to s new)) (sym at) (subst (λ v. Writes v.to_terminal took new.to_terminal) is writes)
