-- What deeds lead to hangs on what was done and heard alone, and not on how what was heard was cut into reads.
use Rattle.std.specs.Prelude.{◌≡◌, List, [], ◌∷◌, ◌++◌, replicate}
use Rattle.tn_session.specs.declared.terminal_state.TerminalState.{TerminalState}
use Rattle.tn_session.specs.Talk.{Talk, stands, starved}
use Rattle.cli_scripts.specs.declared.deed.Deed.{Deed}
use Rattle.cli_scripts.specs.declared.deed.Deed.TheVariants.{Begun, Heard, Pressed}
use Rattle.cli_scripts.specs.Desks.{Worked, DidAll}

-- no session begins by these
abbrev pub NoneBegins : List Deed → Type 0
NoneBegins [] = Unit {0}
NoneBegins (Begun ∷ deeds) = ⊥
NoneBegins (Heard count ∷ deeds) = NoneBegins deeds
NoneBegins (Pressed key ∷ deeds) = NoneBegins deeds

-- they are those of one session
abbrev pub AreOfOneSession : List Deed → Type 0
AreOfOneSession [] = Unit {0}
AreOfOneSession (Begun ∷ deeds) = AreOfOneSession deeds
AreOfOneSession (Heard count ∷ deeds) = NoneBegins deeds
AreOfOneSession (Pressed key ∷ deeds) = NoneBegins deeds

-- no memory was refused to the session
abbrev pub IsFed : Talk TerminalState → Type 0
IsFed (stands standing) = Unit {0}
IsFed starved = ⊥

-- the deeds, each byte of the host heard by one of its own: so nothing is left of its reads
abbrev pub byte_by_byte : List Deed → List Deed
byte_by_byte [] = []
byte_by_byte (Begun ∷ deeds) = Begun ∷ byte_by_byte deeds
byte_by_byte (Heard count ∷ deeds) = replicate count (Heard 1) ++ byte_by_byte deeds
byte_by_byte (Pressed key ∷ deeds) = Pressed key ∷ byte_by_byte deeds

-- the same was done and heard, however the host's bytes were cut into reads
pub record AreAlike (one other : Worked) : Type 0 where
  pub device : one.device ≡ other.device
  pub deeds : byte_by_byte one.deeds ≡ byte_by_byte other.deeds
  pub heard : one.heard ≡ other.heard

-- Two terminals at which the same was done and heard in one session, in reads of any lengths, whether screens are judged or not, gave the
-- same bytes, and their sessions stand alike, so that they show the same picture; where memory was refused to neither. The screens to be
-- judged are those of either where they are judged at both.
abbrev pub DeedsAgree : Type 0
DeedsAgree =
    (one other : Worked) → AreAlike one other → AreOfOneSession one.deeds → AreOfOneSession other.deeds → IsFed one.talk → IsFed other.talk → DidAll one → DidAll other
    → (one.gone ++ one.due ≡ other.gone ++ other.due) × ((one.talk ≡ other.talk)
    × (one.collects ≡ other.collects → one.judged ++ one.unjudged ≡ other.judged ++ other.unjudged))
