-- Reading a whole answer: the laws of the inbound grammar.
use Rattle.std.proofs.Common.{◌≡◌, ℕ, ◌+◌, ◌<◌, true, false, cond, List, [], ◌∷◌, length, Option, Some, None, Result, Ok, Err, refl, sym, ap, subst, ◌∙◌, arith, inl, inr}
use Rattle.std.specs.Prelude.{IfOk, IfErr}
use Rattle.ds_codec.specs.declared.size.Mode.{Mode}
use Rattle.ds_codec.specs.Address.{SpellsAddress}
use Rattle.ds_codec.specs.Aid.{is_aid, is_short_aid}
use Rattle.ds_codec.specs.Character.{Glyph}
use Rattle.ds_codec.specs.Reading.{◌>>=◌}
use Rattle.ds_codec.proofs.Steps.{ok_is}
use Rattle.ds_inbound.specs.declared.refused.Refused.{Refused}
use Rattle.ds_inbound.specs.declared.refused.Why.{Why}
use Rattle.ds_inbound.specs.declared.refused.Why.TheVariants.{Empty, UnknownAid, Truncated, BadAddress, BadCharacter, Null}
use Rattle.ds_inbound.specs.Answer.{Sent, Answer, short_answer}
use Rattle.ds_inbound.specs.Inbound.{SpellsAfter, SpellsInbound, HasOneAnswer, SaysOnly, FaultsAt, IsCut, IsLost, IsRefusedAt}
use Rattle.ds_inbound.specs.Reading.{Tail, long_of, answer_after, read_of}
use Rattle.ds_inbound.proofs.Fronts.{AddressSays, address_says, inside_again, outside_again}
use Rattle.ds_inbound.proofs.Walk.{WalkSays, walk, tail_again, tail_refused}

-- ---- what reading says is so

-- what a result says of the bytes
abbrev pub ReadSays : Mode → ℕ → List ℕ → Result Answer Refused → Type 0
ReadSays mode cells bytes (Ok answer) = SpellsInbound mode cells answer bytes
ReadSays mode cells bytes (Err e) = IsRefusedAt mode cells bytes e.at e.why

-- the fault of an item is one of those that items have
as_refused : (mode : Mode) (cells : ℕ) (why : Why) (bytes : List ℕ) (at : ℕ) → FaultsAt mode cells why bytes at → IsRefusedAt mode cells bytes at why
as_refused mode cells Truncated bytes at f = inr f
as_refused mode cells BadAddress bytes at f = inr f
as_refused mode cells BadCharacter bytes at f = f
as_refused mode cells Null bytes at f = f
as_refused mode cells Empty bytes at (aid, after, cursor, body, lead, fields, rest, is, known, address, tail, place, fault) = absurd fault
as_refused mode cells UnknownAid bytes at (aid, after, cursor, body, lead, fields, rest, is, known, address, tail, place, fault) = absurd fault

body_says : (mode : Mode) (cells aid first second position : ℕ) (body : List ℕ) (r : Result Tail Refused) → is_aid aid ≡ true
    → SpellsAddress mode position first second × (position < cells) → WalkSays mode cells 3 body r
    → ReadSays mode cells (aid ∷ first ∷ second ∷ body) (r >>= λ tail. Ok (record { aid = aid; cursor = Some position; lead = tail.lead; fields = tail.fields }))
body_says mode cells aid first second position body (Ok tail) known address says =
    (first ∷ second ∷ body, refl, known, (body, (first, second, refl, address.0, address.1), says))
body_says mode cells aid first second position body (Err e) known address (lead, fields, rest, tail, place, fault) =
    as_refused mode cells e.why (aid ∷ first ∷ second ∷ body) e.at
    (aid, first ∷ second ∷ body, position, body, lead, fields, rest, refl, known, (first, second, refl, address.0, address.1), tail, omega (arith, place), fault)

long_says : (mode : Mode) (cells aid first second : ℕ) (body : List ℕ) (r : Result ℕ Why) → is_aid aid ≡ true → AddressSays mode cells first second r
    → ReadSays mode cells (aid ∷ first ∷ second ∷ body) (long_of mode cells aid r body)
long_says mode cells aid first second body (Ok position) known says = body_says mode cells aid first second position body _ known says (walk mode cells 3 body)
long_says mode cells aid first second body (Err why) known says =
    subst (λ w. IsRefusedAt mode cells (aid ∷ first ∷ second ∷ body) 1 w) (sym says.0)
    (inl (refl, aid, first, second, body, refl, known, says.1))

after_says : (mode : Mode) (cells aid : ℕ) (rest : List ℕ) → is_aid aid ≡ true → ReadSays mode cells (aid ∷ rest) (answer_after mode cells aid rest)
unfolding answer_after
after_says mode cells aid [] known =
    elim (is_short_aid aid) as (λ b. is_short_aid aid ≡ b → ReadSays mode cells (aid ∷ []) (cond b (Ok (short_answer aid)) (Err (record { at = 1; why = Truncated })))) [
      | true ↦ λ short. ([], refl, known, (short, refl, refl, refl))
      | false ↦ λ long. inl (refl, aid, known, inl (refl, long))
    ] refl
after_says mode cells aid (first ∷ []) known = inl (refl, aid, known, inr (first, refl))
after_says mode cells aid (first ∷ second ∷ body) known = long_says mode cells aid first second body _ known (address_says mode cells first second)

pub read_says : (mode : Mode) (cells : ℕ) (bytes : List ℕ) → ReadSays mode cells bytes (read_of mode cells bytes)
unfolding read_of
read_says mode cells [] = (refl, refl)
read_says mode cells (byte ∷ rest) =
    elim (is_aid byte) as (λ b. is_aid byte ≡ b → ReadSays mode cells (byte ∷ rest) (cond b (answer_after mode cells byte rest) (Err (record { at = 0; why = UnknownAid })))) [
      | true ↦ λ known. after_says mode cells byte rest known
      | false ↦ λ unknown. (refl, byte, rest, refl, unknown)
    ] refl

-- ---- what is so is read

after_again : (mode : Mode) (cells aid : ℕ) (cursor : Option ℕ) (lead : List Glyph) (fields : List Sent) (rest : List ℕ) → SpellsAfter mode cells aid cursor lead fields rest
    → answer_after mode cells aid rest ≡ Ok (record { aid = aid; cursor = cursor; lead = lead; fields = fields })
unfolding answer_after
after_again mode cells aid None lead fields rest (short, no-lead, no-fields, is) = rw (is, short, no-lead, no-fields) refl
after_again mode cells aid (Some cursor) lead fields rest (body, (first, second, is, spelled, near), tail) =
    rw (is, inside_again mode cells cursor first second spelled near, tail_again mode cells 3 lead fields body tail) refl

pub read_again : (mode : Mode) (cells : ℕ) (bytes : List ℕ) (answer : Answer) → SpellsInbound mode cells answer bytes → read_of mode cells bytes ≡ Ok answer
unfolding read_of
read_again mode cells bytes answer (rest, is, known, after) = rw (is, known) (after_again mode cells answer.aid answer.cursor answer.lead answer.fields rest after)

fault_again : (mode : Mode) (cells : ℕ) (why : Why) (bytes : List ℕ) (at : ℕ) → FaultsAt mode cells why bytes at → read_of mode cells bytes ≡ Err (record { at = at; why = why })
unfolding read_of answer_after
fault_again mode cells why bytes at (aid, after, cursor, body, lead, fields, rest, is, known, (first, second, is-after, spelled, near), tail, place, fault) =
    let there : at + length rest ≡ 3 + length body = omega (arith, place, ap length is, ap length is-after) in
    rw (is, known, is-after, inside_again mode cells cursor first second spelled near, tail_refused mode cells 3 at lead fields body rest why tail there fault) refl

cut_again : (mode : Mode) (cells : ℕ) (bytes : List ℕ) (at : ℕ) → IsCut bytes at → read_of mode cells bytes ≡ Err (record { at = at; why = Truncated })
unfolding read_of answer_after
cut_again mode cells bytes at (place, aid, known, inl (is, long)) = rw (is, known, long, place) refl
cut_again mode cells bytes at (place, aid, known, inr (first, is)) = rw (is, known, place) refl

lost_again : (mode : Mode) (cells : ℕ) (bytes : List ℕ) (at : ℕ) → IsLost mode cells bytes at → read_of mode cells bytes ≡ Err (record { at = at; why = BadAddress })
unfolding read_of answer_after
lost_again mode cells bytes at (place, aid, first, second, body, is, known, bad) = rw (is, known, outside_again mode cells first second bad, place) refl

pub read_refused : (mode : Mode) (cells : ℕ) (bytes : List ℕ) (at : ℕ) (why : Why) → IsRefusedAt mode cells bytes at why
    → read_of mode cells bytes ≡ Err (record { at = at; why = why })
unfolding read_of
read_refused mode cells bytes at Empty (place, is) = rw (place, is) refl
read_refused mode cells bytes at UnknownAid (place, byte, rest, is, unknown) = rw (place, is, unknown) refl
read_refused mode cells bytes at Truncated (inl cut) = cut_again mode cells bytes at cut
read_refused mode cells bytes at Truncated (inr fault) = fault_again mode cells Truncated bytes at fault
read_refused mode cells bytes at BadAddress (inl lost) = lost_again mode cells bytes at lost
read_refused mode cells bytes at BadAddress (inr fault) = fault_again mode cells BadAddress bytes at fault
read_refused mode cells bytes at BadCharacter fault = fault_again mode cells BadCharacter bytes at fault
read_refused mode cells bytes at Null fault = fault_again mode cells Null bytes at fault

-- ---- the contract of reading

says_ok : (mode : Mode) (cells : ℕ) (bytes : List ℕ) (r : Result Answer Refused) → ReadSays mode cells bytes r → IfOk r (λ answer. SpellsInbound mode cells answer bytes)
says_ok mode cells bytes (Ok answer) says = says
says_ok mode cells bytes (Err e) says = tt

says_err : (mode : Mode) (cells : ℕ) (bytes : List ℕ) (r : Result Answer Refused) → ReadSays mode cells bytes r → IfErr r (λ e. IsRefusedAt mode cells bytes e.at e.why)
says_err mode cells bytes (Ok answer) says = tt
says_err mode cells bytes (Err e) says = says

pub is_spelled : (mode : Mode) (cells : ℕ) (bytes : List ℕ) (r : Result Answer Refused) → r ≡ read_of mode cells bytes → IfOk r (λ answer. SpellsInbound mode cells answer bytes)
is_spelled mode cells bytes r e = says_ok mode cells bytes r (rw e (read_says mode cells bytes))

pub is_refused : (mode : Mode) (cells : ℕ) (bytes : List ℕ) (r : Result Answer Refused) → r ≡ read_of mode cells bytes → IfErr r (λ e. IsRefusedAt mode cells bytes e.at e.why)
is_refused mode cells bytes r e = says_err mode cells bytes r (rw e (read_says mode cells bytes))

pub has_one_answer : HasOneAnswer
has_one_answer mode cells bytes answer other says also =
    ok_is Refused answer other (sym (read_again mode cells bytes answer says) ∙ read_again mode cells bytes other also)

-- what is read is all that the bytes say
pub says_only : (mode : Mode) (cells : ℕ) (bytes : List ℕ) (answer : Answer) → SpellsInbound mode cells answer bytes → SaysOnly mode cells answer bytes
says_only mode cells bytes answer says = (says, λ other also. has_one_answer mode cells bytes other answer also says)
