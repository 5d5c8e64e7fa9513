-- The maps of a source that are asked for.
use Rattle.std.proofs.Common.{◌≡◌, ℕ, List, Result, Ok, refl}
use Rattle.std.specs.Prelude.{Option}
use Rattle.bms_source.specs.declared.refusal.SourceError.{SourceError}
use Rattle.bms_source.specs.declared.refusal.SourceError.TheVariants.{OutOfMemory, Refused}
use Rattle.bms_source.specs.Results.{Gives, Fails}
use Rattle.bms_source.specs.Told.{Told, ◌>>=◌}
use Rattle.bms_map.specs.Maps.{Sheet}
use Rattle.cli_maps.specs.Asked.{named}

pub is_named : {X : Type 0} (view : X → List Sheet) (name : Option (List ℕ)) (read : Result (List Sheet) Told) (maps : List Sheet) (result : Result X SourceError)
    → read ≡ Ok maps → Gives view result (named name maps) → Gives view result (read >>= named name)
is_named view name read maps result is gives = rw is gives

pub is_unread : (name : Option (List ℕ)) (read : Result (List Sheet) Told) (error : SourceError) → Fails error read → Fails error (read >>= named name)
is_unread name read OutOfMemory is = tt
is_unread name read (Refused told) is = rw is refl
