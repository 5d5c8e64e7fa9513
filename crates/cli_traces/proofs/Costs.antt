-- The bytes that events take of a stream, and how many can be open.
use Rattle.std.proofs.Common.{◌≡◌, ◌==◌, ℕ, ◌+◌, ◌*◌, ◌≤◌, List, [], ◌∷◌, ◌++◌, length, refl, ◌∙◌, ap, arith, length-append}
use Rattle.std.specs.List.{filter, flat_map}
use Rattle.tn_wire.specs.Codes.{iac, record_most}
use Rattle.tn_wire.specs.Telnet.{Token, data_byte, record_end, command, subnegotiation, passed, quoted, quoted_byte, spelling, pending_after, MayCome, AreTokens}
use Rattle.tn_wire.specs.Stream.{Told, Tells, events_after}
use Rattle.tn_cores.proofs.PairWords.{by_bool}
use Rattle.cli_traces.specs.Open.{cost_in}

-- ---- quoted bytes

pub quoted_length : (bytes : List ℕ) → length (quoted bytes) ≡ length bytes + length (filter (λ b. b == 255) bytes)
quoted_length [] = refl
quoted_length (b ∷ bytes) =
    let rest : length (quoted bytes) ≡ length bytes + length (filter (λ b. b == 255) bytes) = quoted_length bytes in
    by_bool (b == 255) (λ e. rw e (omega arith)) (λ e. rw e (omega arith))

pub quoted_first_length : (b : ℕ) (bytes : List ℕ) → length (quoted (b ∷ bytes)) ≡ length (quoted_byte b) + length (quoted bytes)
quoted_first_length b bytes = length-append (quoted_byte b) (quoted bytes)

few_quoted_byte : (b : ℕ) → length (quoted_byte b) ≤ 2
few_quoted_byte b = by_bool (b == 255) (λ e. rw e (omega arith)) (λ e. rw e (omega arith))

few_quoted : (bytes : List ℕ) → length (quoted bytes) ≤ 2 * length bytes
few_quoted [] = omega arith
few_quoted (b ∷ bytes) = omega (arith, quoted_first_length b bytes, few_quoted_byte b, few_quoted bytes)

quoted_more : (d : List ℕ) (b : ℕ) → length (quoted (d ++ b ∷ [])) ≡ length (quoted d) + length (quoted_byte b)
quoted_more [] b = length-append (quoted_byte b) [] ∙ omega arith
quoted_more (c ∷ d) b = omega (arith, quoted_first_length c (d ++ b ∷ []), quoted_first_length c d, quoted_more d b)

-- ---- what tokens take

spelled : List Token → ℕ
spelled ts = length (flat_map spelling ts)

spelled_more : (t : Token) (ts : List Token) → length (flat_map spelling (t ∷ ts)) ≡ length (spelling t) + length (flat_map spelling ts)
spelled_more t ts = length-append (spelling t) (flat_map spelling ts)

sub_length : (option : ℕ) (parameters : List ℕ) → length (spelling (subnegotiation option parameters)) ≡ length (quoted (option ∷ parameters)) + 4
sub_length option parameters =
    let e = length-append (quoted (option ∷ parameters)) (iac ∷ 240 ∷ []) in omega (arith, e)

tokens_cost : (ts : List Token) (d : List ℕ)
    → length (flat_map spelling ts) + length (quoted d) ≡ length (quoted (pending_after d ts)) + cost_in (events_after d ts)
tokens_cost [] d = omega arith
tokens_cost (data_byte b ∷ ts) d = omega (arith, spelled_more (data_byte b) ts, quoted_more d b, tokens_cost ts (d ++ b ∷ []))
tokens_cost (record_end ∷ ts) d = omega (arith, spelled_more record_end ts, tokens_cost ts [])
tokens_cost (command verb option ∷ ts) d = omega (arith, spelled_more (command verb option) ts, tokens_cost ts d)
tokens_cost (subnegotiation option parameters ∷ ts) d =
    omega (arith, spelled_more (subnegotiation option parameters) ts, sub_length option parameters, tokens_cost ts d)
tokens_cost (passed b ∷ ts) d = omega (arith, spelled_more (passed b) ts, tokens_cost ts d)

-- a stream's bytes are those that its events took, and those that are open
pub tells_cost : (bytes left : List ℕ) (events : List Told) → Tells bytes events left → length bytes ≡ length left + cost_in events
tells_cost bytes left events t =
    let whole : length bytes ≡ length (flat_map spelling t.tokens ++ t.rest) = ap length t.spelled.whole in
    let parts = length-append (flat_map spelling t.tokens) t.rest in
    let kept : length left ≡ length (quoted (pending_after [] t.tokens) ++ t.rest) = ap length t.leaves in
    let kept_parts = length-append (quoted (pending_after [] t.tokens)) t.rest in
    let costs : cost_in events ≡ cost_in (events_after [] t.tokens) = ap cost_in t.told in
    omega (arith, whole, parts, kept, kept_parts, costs, tokens_cost t.tokens [])

-- ---- how many are open

few_pending : (ts : List Token) (d : List ℕ) → length d ≤ record_most → AreTokens d ts → length (pending_after d ts) ≤ record_most
few_pending [] d few are = few
few_pending (data_byte b ∷ ts) d few are = few_pending ts (d ++ b ∷ []) (omega (arith, length-append d (b ∷ []), are.0)) are.1
few_pending (record_end ∷ ts) d few are = few_pending ts [] (omega arith) are.1
few_pending (command verb option ∷ ts) d few are = few_pending ts d few are.1
few_pending (subnegotiation option parameters ∷ ts) d few are = few_pending ts d few are.1
few_pending (passed b ∷ ts) d few are = few_pending ts d few are.1

few_spelled : (d : List ℕ) (t : Token) → MayCome d t → length (spelling t) ≤ 518
few_spelled d (data_byte b) comes = omega (arith, few_quoted_byte b)
few_spelled d record_end comes = omega arith
few_spelled d (command verb option) comes = omega arith
few_spelled d (subnegotiation option parameters) comes = omega (arith, sub_length option parameters, few_quoted (option ∷ parameters), comes)
few_spelled d (passed b) comes = omega arith

pub few_open : (bytes left : List ℕ) (events : List Told) → Tells bytes events left → length left ≤ 66054
few_open bytes left events t =
    let d = pending_after [] t.tokens in
    let kept : length left ≡ length (quoted d ++ t.rest) = ap length t.leaves in
    let p = t.spelled.partial in
    let token : length (spelling p.token) ≡ length (t.rest ++ p.more) = ap length p.spelled in
    omega (
      arith,
      kept,
      length-append (quoted d) t.rest,
      token,
      length-append t.rest p.more,
      few_spelled d p.token p.comes,
      few_quoted d,
      few_pending t.tokens [] (omega arith) t.spelled.each,
    )
