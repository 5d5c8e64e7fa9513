-- Pairs as the program holds them.
use Rattle.std.specs.Prelude.{◌≡◌, ◌<◌, ℕ, Bool, false, List, slice_index_or, Result, Ok, Err}
use Rattle.ds_inbound.specs.Characters.{characters_in}
use Rattle.ds_inbound.specs.declared.field.FieldSlice.{FieldSlice}
use Rattle.scr_check.specs.declared.bound.Bound.{Bound}
use Rattle.scr_check.specs.declared.binding.BindFault.{BindFault}
use Rattle.scr_check.specs.declared.binding.BindError.{BindError}
use Rattle.scr_check.specs.declared.binding.BindError.TheVariants.{OutOfMemory, Refused}
use Rattle.scr_check.specs.Binding.{Pair, is_bound}

abbrev pub bound_seen : Bound → Pair
bound_seen bound = record { entry = bound.entry; characters = characters_in bound.raw.now }

-- an error is the fault that is due; memory may run out where nothing is at fault
abbrev pub Fails : {A : Type 0} → BindError → Result A BindFault → Type 0
Fails {A} OutOfMemory due = (a : A) × (due ≡ Ok a)
Fails (Refused fault) due = due ≡ Err fault

-- a result, seen by view, is what is due; memory may run out where nothing is at fault
abbrev pub Binds : {X A : Type 0} → (X → A) → Result X BindError → Result A BindFault → Type 0
Binds view (Ok x) due = due ≡ Ok (view x)
Binds view (Err e) due = Fails e due

-- the pair that is due of a field, with its bytes
abbrev pub BindsAs : Result Pair BindFault → FieldSlice → Result Bound BindFault → Type 0
BindsAs due field (Ok pair) = (due ≡ Ok (bound_seen pair)) × (pair.raw ≡ field.raw)
BindsAs due field (Err fault) = due ≡ Err fault

-- the entries that have a field are exactly those of these pairs
abbrev pub AreTaken : List Bool → List Pair → Type 0
AreTaken taken bound = (index : ℕ) → index < 1000 → slice_index_or taken index false ≡ is_bound index bound
