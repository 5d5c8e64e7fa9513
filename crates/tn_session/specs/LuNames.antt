-- The name of the logical unit that a host granted a terminal.
use Rattle.std.specs.Prelude.{ℕ, List, [], take, Option, Some, None, if◌then◌else◌}
use Rattle.tn_wire.specs.Stream.{Told as Event}
use Rattle.tn_cores.specs.declared.session.Agreed.{Agreed}
use Rattle.tn_cores.specs.Grants.{granted_lu_name}
use Rattle.tn_session.specs.declared.end_core.EndCore.{EndCore}
use Rattle.tn_session.specs.declared.end_core.EndCore.TheVariants.{Strict, Tolerant}

-- the name that an event grants to a core of either manner
abbrev pub core_grants : EndCore → Event → Option (List ℕ)
core_grants (Strict core) event = granted_lu_name core event
core_grants (Tolerant core) event = granted_lu_name core.core event

-- of a name that is granted the first 32 bytes are kept
abbrev pub name_kept : List ℕ → Option (List ℕ) → List ℕ
name_kept name None = name
name_kept name (Some granted) = take 32 granted

abbrev pub name_after : EndCore → Event → List ℕ → List ℕ
name_after core event name = name_kept name (core_grants core event)

-- a session has a name while it is ready by TN3270E
abbrev pub name_under : Option Agreed → List ℕ → List ℕ
name_under None name = []
name_under (Some agreed) name = if agreed.enhanced then name else []
