-- Terminals one after the other: their sessions are one list, and their lines one text.
use Rattle.std.proofs.Common.{◌≡◌, ◌∙◌, ◌+◌, ◌||◌, ℕ, Bool, true, false, List, [], ◌∷◌, ◌++◌, length, Option, Some, None, Result, Ok, Err, sym, ap, subst, refl, inl, inr, append_assoc, append-nil, arith}
use Rattle.std.proofs.lemmas.List.{length-append}
use Rattle.std.proofs.lemmas.List.Folds.{list_any-append}
use Rattle.std.specs.Io.KnownBytes.{Appends}
use Rattle.scr_layout.specs.Entry.{Declared}
use Rattle.scr_layout.specs.Layout.{Declaration}
use Rattle.cli_commands.specs.declared.status.Status.{Status}
use Rattle.cli_commands.specs.declared.status.Status.TheVariants.{Done, Findings, BadInput, Failed, NoMemory}
use Rattle.cli_commands.specs.Streams.{IsWantOrFailure}
use Rattle.cli_commands.proofs.Prefixes.{appends_more}
use Rattle.tn_session.specs.declared.fault.RunFault.{RunFault}
use Rattle.tn_session.specs.HostLog.{Outcome}
use Rattle.tn_session.specs.Wire.{FreshLine, WireState, begun}
use Rattle.cli_sessions.specs.Printing.{IsPrinted}
use Rattle.cli_sessions.specs.Session.{session_lines, served_text, is_failed, IsHosted, IsTold}
use Rattle.cli_sessions.specs.Serve.{Hands, HandsNext, AreHosted, some_failed, Visited, Serving, ServesAll, ServesSome, Serves, IsVisited, StopsAt, WritesSession}

pub served_more : (entries : List Declared) (number : ℕ) (first others : List (Result Outcome RunFault))
    → served_text entries number (first ++ others) ≡ served_text entries number first ++ served_text entries (number + length first) others
served_more entries number [] others = ap (λ (n : ℕ). served_text entries n others) (omega arith)
served_more entries number (session ∷ sessions) others =
    let rest = served_more entries (number + 1) sessions others in
    let same : (number + 1) + length sessions ≡ number + length (session ∷ sessions) = omega arith in
    ap (λ t. session_lines entries number session ++ t) (rest ∙ ap (λ (n : ℕ). served_text entries (number + 1) sessions ++ served_text entries n others) same)
    ∙ sym (append_assoc (session_lines entries number session) (served_text entries (number + 1) sessions) (served_text entries (number + length (session ∷ sessions)) others))

pub hosted_more : (layout : Declaration) (records : List (List ℕ)) (lines : List FreshLine) (wires : List WireState) (first : List (Result Outcome RunFault))
    (more : List FreshLine) (later : List WireState) (others : List (Result Outcome RunFault))
    → AreHosted layout records lines wires first → AreHosted layout records more later others → AreHosted layout records (lines ++ more) (wires ++ later) (first ++ others)
hosted_more layout records [] [] [] more later others a b = b
hosted_more layout records [] [] (session ∷ sessions) more later others a b = absurd a
hosted_more layout records [] (wire ∷ wires) sessions more later others a b = absurd a
hosted_more layout records (line ∷ lines) [] sessions more later others a b = absurd a
hosted_more layout records (line ∷ lines) (wire ∷ wires) [] more later others a b = absurd a
hosted_more layout records (line ∷ lines) (wire ∷ wires) (session ∷ sessions) more later others a b =
    (a.0, hosted_more layout records lines wires sessions more later others a.1 b)

pub or_false : (b : Bool) → (b || false) ≡ b
or_false false = refl
or_false true = refl

pub appends_none : (known : Option (List ℕ)) → Appends known known []
appends_none None = tt
appends_none (Some xs) = sym (append-nil xs)

pub hands_none : (coming : Option (List FreshLine)) → Hands coming [] coming
hands_none None = tt
hands_none (Some lines) = refl

pub hands_more : (old mid new : Option (List FreshLine)) (first second : List FreshLine) → Hands old first mid → Hands mid second new → Hands old (first ++ second) new
hands_more None mid new first second a b = tt
hands_more (Some x) None new first second a b = absurd a
hands_more (Some x) (Some y) None first second a b = absurd b
hands_more (Some x) (Some y) (Some z) first second a b = a ∙ ap (λ l. first ++ l) b ∙ sym (append_assoc first second z)

pub hands_next : {L : Type 0} (E : Type 0) (seen : L → FreshLine) (old : Option (List FreshLine)) (line : L) (new : Option (List FreshLine))
    → HandsNext {E = E} seen old (Ok line) new → Hands old (seen line ∷ []) new
hands_next E seen None line new a = tt
hands_next E seen (Some coming) line new a = a

pub hands_not : {L E : Type 0} (seen : L → FreshLine) (old : Option (List FreshLine)) (error : E) (new : Option (List FreshLine))
    → HandsNext {L = L} seen old (Err error) new → Hands old [] new
hands_not seen None error new a = tt
hands_not seen (Some coming) error new a = a

pub goes_more : (old mid new first second : List WireState) → mid ≡ old ++ first → new ≡ mid ++ second → new ≡ old ++ (first ++ second)
goes_more old mid new first second a b = b ∙ ap (λ l. l ++ second) a ∙ append_assoc old first second

-- a terminal came, this came of its session, and then it went
pub visited : (layout : Declaration) (records : List (List ℕ)) (old mid new : Visited) (line : FreshLine) (start wire : WireState) (session : Result Outcome RunFault)
    → Hands old.coming (line ∷ []) mid.coming → mid.gone ≡ old.gone → mid.missing ≡ old.missing
    → new.coming ≡ mid.coming → new.gone ≡ mid.gone ++ wire ∷ [] → new.missing ≡ mid.missing
    → start ≡ begun line → IsHosted layout records start session wire → IsVisited layout records old new session
visited layout records old mid new line start wire session came gone missing still went kept is_new hosted = record {
  line = line;
  wire = wire;
  came = subst (Hands old.coming (line ∷ [])) (sym still) came;
  went = went ∙ ap (λ l. l ++ wire ∷ []) gone;
  none_missing = kept ∙ missing;
  hosted = subst (λ (w : WireState). IsHosted layout records w session wire) is_new hosted;
}

pub serves_none : (layout : Declaration) (records : List (List ℕ)) (number : ℕ) (now : Serving) → ServesAll layout records number 0 now now false
serves_none layout records number now = record {
  lines = [];
  wires = [];
  sessions = [];
  all = refl;
  came = hands_none now.terminals.coming;
  went = sym (append-nil now.terminals.gone);
  none_missing = refl;
  hosted = tt;
  any = refl;
  written = (appends_none now.output.written, refl);
}

pub serves_more : (layout : Declaration) (records : List (List ℕ)) (number count more : ℕ) (old mid new : Serving) (failed this : Bool)
    → ServesAll layout records number count old mid failed → ServesAll layout records (number + count) more mid new this
    → ServesAll layout records number (count + more) old new (failed || this)
serves_more layout records number count more old mid new failed this a b =
    let same : number + length a.sessions ≡ number + count = ap (λ (n : ℕ). number + n) a.all in
    let text : served_text layout.entries number (a.sessions ++ b.sessions) ≡ served_text layout.entries number a.sessions ++ served_text layout.entries (number + count) b.sessions =
    served_more layout.entries number a.sessions b.sessions ∙ ap (λ (n : ℕ). served_text layout.entries number a.sessions ++ served_text layout.entries n b.sessions) same in
    record {
      lines = a.lines ++ b.lines;
      wires = a.wires ++ b.wires;
      sessions = a.sessions ++ b.sessions;
      all = length-append a.sessions b.sessions ∙ ap (λ (n : ℕ). n + length b.sessions) a.all ∙ ap (λ (n : ℕ). count + n) b.all;
      came = hands_more old.terminals.coming mid.terminals.coming new.terminals.coming a.lines b.lines a.came b.came;
      went = goes_more old.terminals.gone mid.terminals.gone new.terminals.gone a.wires b.wires a.went b.went;
      none_missing = b.none_missing ∙ a.none_missing;
      hosted = hosted_more layout records a.lines a.wires a.sessions b.lines b.wires b.sessions a.hosted b.hosted;
      any = list_any-append is_failed a.sessions b.sessions ∙ ap (λ (x : Bool). x || some_failed b.sessions) a.any ∙ ap (λ (x : Bool). failed || x) b.any;
      written = (
        subst (Appends old.output.written new.output.written) (sym text)
            (appends_more old.output.written mid.output.written new.output.written (served_text layout.entries number a.sessions) (served_text layout.entries (number + count) b.sessions) a.written.0 b.written.0),
        b.written.1 ∙ a.written.1,
      );
    }

pub serves_one : (layout : Declaration) (records : List (List ℕ)) (number : ℕ) (old new : Serving) (session : Result Outcome RunFault)
    → IsVisited layout records old.terminals new.terminals session → IsTold session → IsPrinted old.output new.output (session_lines layout.entries number session) true
    → ServesAll layout records number 1 old new (is_failed session)
serves_one layout records number old new session visit told printed = record {
  lines = visit.line ∷ [];
  wires = visit.wire ∷ [];
  sessions = session ∷ [];
  all = refl;
  came = visit.came;
  went = visit.went;
  none_missing = visit.none_missing;
  hosted = ((visit.hosted, told), tt);
  any = or_false (is_failed session);
  written = (subst (Appends old.output.written new.output.written) (sym (append-nil (session_lines layout.entries number session))) printed.0, printed.1);
}

-- its lines were not written
pub stops_unwritten : (layout : Declaration) (records : List (List ℕ)) (number : ℕ) (old new : Serving) (session : Result Outcome RunFault) (status : Status)
    → IsVisited layout records old.terminals new.terminals session → IsTold session → WritesSession layout.entries number session old.output new.output (Err status)
    → IsWantOrFailure status × StopsAt layout records number old new status
stops_unwritten layout records number old new session Done visit told writes = absurd writes
stops_unwritten layout records number old new session Findings visit told writes = absurd writes
stops_unwritten layout records number old new session BadInput visit told writes = absurd writes
stops_unwritten layout records number old new session Failed visit told writes =
    (tt, inr (inr (record { session = session; is = refl; visited = visit; told = told; front = writes })))
stops_unwritten layout records number old new session NoMemory visit told writes =
    (tt, inr (inl (record { session = session; is = refl; visited = visit; output = writes })))

pub serves_early : (layout : Declaration) (records : List (List ℕ)) (count : ℕ) (old new : Serving) (status : Status)
    → IsWantOrFailure status → ServesSome layout records count old new status → Serves layout records count old new status
serves_early layout records count old new Done early some = absurd early
serves_early layout records count old new Findings early some = absurd early
serves_early layout records count old new BadInput early some = absurd early
serves_early layout records count old new Failed early some = inr some
serves_early layout records count old new NoMemory early some = inr some
