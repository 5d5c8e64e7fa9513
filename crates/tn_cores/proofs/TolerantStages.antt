-- Every state that a tolerant terminal and a host can reach, written out, and the step from each: printed by pair_stages.py tolerant.
use Rattle.std.proofs.Common.{ℕ, ◌≡◌, ◌++◌, Bool, true, false, [], ◌∷◌, Some, None, refl, lit<, inl, inr}
use Rattle.ds_codec.specs.Geometry.{Sizes}
use Rattle.tn_wire.specs.Stream.{told_verb, told_sub}
use Rattle.tn_cores.specs.declared.device.Device.{Device as DeviceValue}
use Rattle.tn_cores.specs.declared.session.SessionFault.TheVariants.{OptionRefused, NoDevice}
use Rattle.tn_cores.specs.declared.terminal.TypeState.TheVariants.{Off, On, Named}
use Rattle.tn_cores.specs.declared.terminal.TerminalPhase.TheVariants.{Classic, Opening, Enhanced, Device as Asked, Functions as Asking, Ready as Holding}
use Rattle.tn_cores.specs.declared.host.HostPhase.TheVariants.{AskedEnhanced, Device, Functions, Ready, AskedType, AskedName, Options}
use Rattle.tn_cores.specs.Devices.{name_of, fits}
use Rattle.tn_cores.specs.Heard.{type_heard, enhanced_heard}
use Rattle.tn_cores.specs.Replies.{resource_name, function_list}
use Rattle.tn_cores.specs.Rows.{neither}
use Rattle.tn_cores.specs.declared.tolerant.TolerantCore.{TolerantCore}
use Rattle.tn_cores.specs.Pair.{SessionPair, End, at_terminal, at_host, pair_step, tolerant, IsSettledTolerant}
use Rattle.tn_cores.proofs.PairWords.{sides, terminal_at, tolerant_at, host_at, pair_at, phase_of, by_bool, Leads, Holds}
use Rattle.tn_cores.proofs.Names.{device_of-name_of}
use Rattle.tn_cores.proofs.NameLaws.{naming-name_of, naming-granted, fitting-name_of, is_short_name, is_equal_name}

pub data Stage (d : DeviceValue) (g : Sizes) : Type 0 where
  e0 : (asks grants : Bool) → Stage d g
  e1 : (asks grants : Bool) → Stage d g
  e2 : (asks grants : Bool) → Stage d g
  e3 : (asks grants : Bool) → Stage d g
  r4 : (asks grants : Bool) → Stage d g
  r5 : (asks grants : Bool) → Stage d g
  r6 : (asks grants : Bool) → Stage d g
  e4 : (asks grants : Bool) → Stage d g
  e5 : (asks grants : Bool) → Stage d g
  e6 : (asks grants : Bool) → Stage d g
  e7 : (asks grants : Bool) → Stage d g
  f6 : Stage d g
  f7 : Stage d g
  f8 : Stage d g
  x0 : (asks grants : Bool) → Stage d g
  x1 : (asks grants : Bool) → Stage d g
  k0 : (takes asks grants : Bool) → Stage d g
  k1 : (takes asks grants : Bool) → Stage d g
  k2 : (takes asks grants : Bool) → Stage d g
  k3 : (takes asks grants : Bool) → Stage d g
  k4 : (takes asks grants : Bool) → fits g d.model ≡ false → Stage d g
  k5 : (takes asks grants : Bool) → fits g d.model ≡ false → Stage d g
  k6 : (takes asks grants : Bool) → Stage d g
  g00 : (takes asks grants : Bool) → Stage d g
  g10 : (takes asks grants : Bool) → Stage d g
  g11 : (takes asks grants : Bool) → Stage d g
  g20 : (takes asks grants : Bool) → Stage d g
  g21 : (takes asks grants : Bool) → Stage d g
  g22 : (takes asks grants : Bool) → Stage d g
  g30 : (takes asks grants : Bool) → Stage d g
  g31 : (takes asks grants : Bool) → Stage d g
  g32 : (takes asks grants : Bool) → Stage d g
  g33 : (takes asks grants : Bool) → Stage d g
  g40 : (takes asks grants : Bool) → Stage d g
  g41 : (takes asks grants : Bool) → Stage d g
  g42 : (takes asks grants : Bool) → Stage d g
  g43 : (takes asks grants : Bool) → Stage d g
  g44 : (takes asks grants : Bool) → Stage d g

-- the pair at a stage
abbrev pub state : (d : DeviceValue) (g : Sizes) → Stage d g → SessionPair TolerantCore
state d g (e0 asks grants) = pair_at (tolerant_at (terminal_at d asks Off neither neither Opening) false) (host_at g grants neither neither AskedEnhanced) (told_verb 253 40 ∷ []) ([]) [] []
state d g (e1 asks grants) = pair_at (tolerant_at (terminal_at d asks Off neither neither Enhanced) false) (host_at g grants neither neither AskedEnhanced) ([]) (told_verb 251 40 ∷ []) [] []
state d g (e2 asks grants) = pair_at (tolerant_at (terminal_at d asks Off neither neither Enhanced) false) (host_at g grants neither neither Device) (told_sub 40 (8 ∷ 2 ∷ []) ∷ []) ([]) [] []
state d g (e3 asks grants) = pair_at (tolerant_at (terminal_at d asks Off neither neither Asked) false) (host_at g grants neither neither Device) ([]) (told_sub 40 (2 ∷ 7 ∷ name_of d) ∷ []) [] []
state d g (r4 asks grants) = pair_at (tolerant_at (terminal_at d asks Off neither neither Asked) false) (host_at g grants neither neither Device) (told_sub 40 (2 ∷ 6 ∷ 5 ∷ 4 ∷ []) ∷ []) ([]) [] []
state d g (r5 asks grants) = pair_at (tolerant_at (terminal_at d asks Off neither neither Classic) false) (host_at g grants neither neither Device) ([]) (told_verb 252 40 ∷ []) [] []
state d g (r6 asks grants) = pair_at (tolerant_at (terminal_at d asks Off neither neither Classic) false) (host_at g grants neither neither Device) ([]) ([]) [] (OptionRefused 40 ∷ [])
state d g (e4 asks grants) = pair_at (tolerant_at (terminal_at d asks Off neither neither Asked) false) (host_at g grants neither neither (Functions d None)) (told_sub 40 (2 ∷ 4 ∷ (name_of d ++ 1 ∷ resource_name)) ∷ []) ([]) [] []
state d g (e5 asks grants) = pair_at (tolerant_at (terminal_at d asks Off neither neither (Asking asks)) false) (host_at g grants neither neither (Functions d None)) ([]) (told_sub 40 (3 ∷ 7 ∷ function_list asks) ∷ []) [] []
state d g (e6 asks grants) = pair_at (tolerant_at (terminal_at d asks Off neither neither (Asking asks)) false) (host_at g grants neither neither (Ready d asks)) (told_sub 40 (3 ∷ 4 ∷ function_list asks) ∷ []) ([]) [] []
state d g (e7 asks grants) = pair_at (tolerant_at (terminal_at d asks Off neither neither (Holding asks)) false) (host_at g grants neither neither (Ready d asks)) ([]) ([]) [] []
state d g f6 = pair_at (tolerant_at (terminal_at d true Off neither neither (Asking true)) false) (host_at g false neither neither (Functions d (Some false))) (told_sub 40 (3 ∷ 7 ∷ []) ∷ []) ([]) [] []
state d g f7 = pair_at (tolerant_at (terminal_at d true Off neither neither (Holding false)) false) (host_at g false neither neither (Functions d (Some false))) ([]) (told_sub 40 (3 ∷ 4 ∷ []) ∷ []) [] []
state d g f8 = pair_at (tolerant_at (terminal_at d true Off neither neither (Holding false)) false) (host_at g false neither neither (Ready d false)) ([]) ([]) [] []
state d g (x0 asks grants) = pair_at (tolerant_at (terminal_at d asks Off neither neither Classic) false) (host_at g grants neither neither AskedEnhanced) (told_verb 253 40 ∷ []) ([]) [] []
state d g (x1 asks grants) = pair_at (tolerant_at (terminal_at d asks Off neither neither Classic) false) (host_at g grants neither neither AskedEnhanced) ([]) (told_verb 252 40 ∷ []) [] []
state d g (k0 takes asks grants) = pair_at (tolerant_at (terminal_at d asks Off neither neither (phase_of takes)) false) (host_at g grants neither neither AskedType) (told_verb 253 24 ∷ []) ([]) [] []
state d g (k1 takes asks grants) = pair_at (tolerant_at (terminal_at d asks On neither neither (phase_of takes)) false) (host_at g grants neither neither AskedType) ([]) (told_verb 251 24 ∷ []) [] []
state d g (k2 takes asks grants) = pair_at (tolerant_at (terminal_at d asks On neither neither (phase_of takes)) false) (host_at g grants neither neither (AskedName None)) (told_sub 24 (1 ∷ []) ∷ []) ([]) [] []
state d g (k3 takes asks grants) = pair_at (tolerant_at (terminal_at d asks Named neither neither (phase_of takes)) false) (host_at g grants neither neither (AskedName None)) ([]) (told_sub 24 (0 ∷ name_of d) ∷ []) [] []
state d g (k4 takes asks grants other) = pair_at (tolerant_at (terminal_at d asks Named neither neither (phase_of takes)) false) (host_at g grants neither neither (AskedName (Some (record { items = name_of d })))) (told_sub 24 (1 ∷ []) ∷ []) ([]) [] []
state d g (k5 takes asks grants other) = pair_at (tolerant_at (terminal_at d asks Named neither neither (phase_of takes)) false) (host_at g grants neither neither (AskedName (Some (record { items = name_of d })))) ([]) (told_sub 24 (0 ∷ name_of d) ∷ []) [] []
state d g (k6 takes asks grants) = pair_at (tolerant_at (terminal_at d asks Named neither neither (phase_of takes)) false) (host_at g grants neither neither (AskedName (Some (record { items = name_of d })))) ([]) ([]) [] (NoDevice ∷ [])
state d g (g00 takes asks grants) = pair_at (tolerant_at (terminal_at d asks Named (sides false false) (sides false false) (phase_of takes)) false) (host_at g grants (sides false false) (sides false false) (Options d)) (told_verb 253 25 ∷ told_verb 251 25 ∷ told_verb 253 0 ∷ told_verb 251 0 ∷ []) ([]) [] []
state d g (g10 takes asks grants) = pair_at (tolerant_at (terminal_at d asks Named (sides true false) (sides false false) (phase_of takes)) false) (host_at g grants (sides false false) (sides false false) (Options d)) (told_verb 251 25 ∷ told_verb 253 0 ∷ told_verb 251 0 ∷ []) (told_verb 251 25 ∷ []) [] []
state d g (g11 takes asks grants) = pair_at (tolerant_at (terminal_at d asks Named (sides true false) (sides false false) (phase_of takes)) false) (host_at g grants (sides false true) (sides false false) (Options d)) (told_verb 251 25 ∷ told_verb 253 0 ∷ told_verb 251 0 ∷ []) ([]) [] []
state d g (g20 takes asks grants) = pair_at (tolerant_at (terminal_at d asks Named (sides true true) (sides false false) (phase_of takes)) false) (host_at g grants (sides false false) (sides false false) (Options d)) (told_verb 253 0 ∷ told_verb 251 0 ∷ []) (told_verb 251 25 ∷ told_verb 253 25 ∷ []) [] []
state d g (g21 takes asks grants) = pair_at (tolerant_at (terminal_at d asks Named (sides true true) (sides false false) (phase_of takes)) false) (host_at g grants (sides false true) (sides false false) (Options d)) (told_verb 253 0 ∷ told_verb 251 0 ∷ []) (told_verb 253 25 ∷ []) [] []
state d g (g22 takes asks grants) = pair_at (tolerant_at (terminal_at d asks Named (sides true true) (sides false false) (phase_of takes)) false) (host_at g grants (sides true true) (sides false false) (Options d)) (told_verb 253 0 ∷ told_verb 251 0 ∷ []) ([]) [] []
state d g (g30 takes asks grants) = pair_at (tolerant_at (terminal_at d asks Named (sides true true) (sides true false) (phase_of takes)) false) (host_at g grants (sides false false) (sides false false) (Options d)) (told_verb 251 0 ∷ []) (told_verb 251 25 ∷ told_verb 253 25 ∷ told_verb 251 0 ∷ []) [] []
state d g (g31 takes asks grants) = pair_at (tolerant_at (terminal_at d asks Named (sides true true) (sides true false) (phase_of takes)) false) (host_at g grants (sides false true) (sides false false) (Options d)) (told_verb 251 0 ∷ []) (told_verb 253 25 ∷ told_verb 251 0 ∷ []) [] []
state d g (g32 takes asks grants) = pair_at (tolerant_at (terminal_at d asks Named (sides true true) (sides true false) (phase_of takes)) false) (host_at g grants (sides true true) (sides false false) (Options d)) (told_verb 251 0 ∷ []) (told_verb 251 0 ∷ []) [] []
state d g (g33 takes asks grants) = pair_at (tolerant_at (terminal_at d asks Named (sides true true) (sides true false) (phase_of takes)) false) (host_at g grants (sides true true) (sides false true) (Options d)) (told_verb 251 0 ∷ []) ([]) [] []
state d g (g40 takes asks grants) = pair_at (tolerant_at (terminal_at d asks Named (sides true true) (sides true true) (phase_of takes)) true) (host_at g grants (sides false false) (sides false false) (Options d)) ([]) (told_verb 251 25 ∷ told_verb 253 25 ∷ told_verb 251 0 ∷ told_verb 253 0 ∷ []) [] []
state d g (g41 takes asks grants) = pair_at (tolerant_at (terminal_at d asks Named (sides true true) (sides true true) (phase_of takes)) true) (host_at g grants (sides false true) (sides false false) (Options d)) ([]) (told_verb 253 25 ∷ told_verb 251 0 ∷ told_verb 253 0 ∷ []) [] []
state d g (g42 takes asks grants) = pair_at (tolerant_at (terminal_at d asks Named (sides true true) (sides true true) (phase_of takes)) true) (host_at g grants (sides true true) (sides false false) (Options d)) ([]) (told_verb 251 0 ∷ told_verb 253 0 ∷ []) [] []
state d g (g43 takes asks grants) = pair_at (tolerant_at (terminal_at d asks Named (sides true true) (sides true true) (phase_of takes)) true) (host_at g grants (sides true true) (sides false true) (Options d)) ([]) (told_verb 253 0 ∷ []) [] []
state d g (g44 takes asks grants) = pair_at (tolerant_at (terminal_at d asks Named (sides true true) (sides true true) (phase_of takes)) true) (host_at g grants (sides true true) (sides true true) (Options d)) ([]) ([]) [] []

-- how many steps are left at most
abbrev pub rank : {d : DeviceValue} {g : Sizes} → Stage d g → ℕ
rank (e0 asks grants) = 8
rank (e1 asks grants) = 7
rank (e2 asks grants) = 6
rank (e3 asks grants) = 5
rank (r4 asks grants) = 2
rank (r5 asks grants) = 1
rank (r6 asks grants) = 0
rank (e4 asks grants) = 4
rank (e5 asks grants) = 3
rank (e6 asks grants) = 1
rank (e7 asks grants) = 0
rank f6 = 2
rank f7 = 1
rank f8 = 0
rank (x0 asks grants) = 14
rank (x1 asks grants) = 13
rank (k0 takes asks grants) = 12
rank (k1 takes asks grants) = 11
rank (k2 takes asks grants) = 10
rank (k3 takes asks grants) = 9
rank (k4 takes asks grants other) = 2
rank (k5 takes asks grants other) = 1
rank (k6 takes asks grants) = 0
rank (g00 takes asks grants) = 8
rank (g10 takes asks grants) = 7
rank (g11 takes asks grants) = 6
rank (g20 takes asks grants) = 6
rank (g21 takes asks grants) = 5
rank (g22 takes asks grants) = 4
rank (g30 takes asks grants) = 5
rank (g31 takes asks grants) = 4
rank (g32 takes asks grants) = 3
rank (g33 takes asks grants) = 2
rank (g40 takes asks grants) = 4
rank (g41 takes asks grants) = 3
rank (g42 takes asks grants) = 2
rank (g43 takes asks grants) = 1
rank (g44 takes asks grants) = 0

pub next : (d : DeviceValue) (g : Sizes) (s : Stage d g) (end : End)
    → Leads (Stage d g) (state d g) (λ t. rank t) (rank s) (pair_step tolerant (state d g s) end)
unfolding type_heard enhanced_heard
next d g (e0 asks grants) at_terminal = (e1 asks grants, refl, lit< tt)
next d g (e0 asks grants) at_host = tt
next d g (e1 asks grants) at_terminal = tt
next d g (e1 asks grants) at_host = (e2 asks grants, refl, lit< tt)
next d g (e2 asks grants) at_terminal = (e3 asks grants, refl, lit< tt)
next d g (e2 asks grants) at_host = tt
next d g (e3 asks grants) at_terminal = tt
next d g (e3 asks grants) at_host = by_bool (fits g d.model) (λ e. (e4 asks grants, rw (naming-name_of d) (rw (fitting-name_of g d) (rw e refl)), lit< tt)) (λ e. (r4 asks grants, rw (naming-name_of d) (rw (fitting-name_of g d) (rw e refl)), lit< tt))
next d g (r4 asks grants) at_terminal = (r5 asks grants, refl, lit< tt)
next d g (r4 asks grants) at_host = tt
next d g (r5 asks grants) at_terminal = tt
next d g (r5 asks grants) at_host = (r6 asks grants, refl, lit< tt)
next d g (r6 asks grants) at_terminal = tt
next d g (r6 asks grants) at_host = tt
next d g (e4 asks grants) at_terminal = (e5 asks grants, rw (naming-granted d) (rw (device_of-name_of d) refl), lit< tt)
next d g (e4 asks grants) at_host = tt
next d g (e5 asks grants) at_terminal = tt
next d g (e5 false grants) at_host = (e6 false grants, refl, lit< tt)
next d g (e5 true true) at_host = (e6 true true, refl, lit< tt)
next d g (e5 true false) at_host = (f6, refl, lit< tt)
next d g (e6 false grants) at_terminal = (e7 false grants, refl, lit< tt)
next d g (e6 true grants) at_terminal = (e7 true grants, refl, lit< tt)
next d g (e6 asks grants) at_host = tt
next d g (e7 asks grants) at_terminal = tt
next d g (e7 asks grants) at_host = tt
next d g f6 at_terminal = (f7, refl, lit< tt)
next d g f6 at_host = tt
next d g f7 at_terminal = tt
next d g f7 at_host = (f8, refl, lit< tt)
next d g f8 at_terminal = tt
next d g f8 at_host = tt
next d g (x0 asks grants) at_terminal = (x1 asks grants, refl, lit< tt)
next d g (x0 asks grants) at_host = tt
next d g (x1 asks grants) at_terminal = tt
next d g (x1 asks grants) at_host = (k0 false asks grants, refl, lit< tt)
next d g (k0 takes asks grants) at_terminal = (k1 takes asks grants, refl, lit< tt)
next d g (k0 takes asks grants) at_host = tt
next d g (k1 takes asks grants) at_terminal = tt
next d g (k1 takes asks grants) at_host = (k2 takes asks grants, refl, lit< tt)
next d g (k2 takes asks grants) at_terminal = (k3 takes asks grants, refl, lit< tt)
next d g (k2 takes asks grants) at_host = tt
next d g (k3 takes asks grants) at_terminal = tt
next d g (k3 takes asks grants) at_host = by_bool (fits g d.model) (λ e. (g00 takes asks grants, rw (is_short_name d) (rw (fitting-name_of g d) (rw e refl)), lit< tt)) (λ e. (k4 takes asks grants e, rw (is_short_name d) (rw (fitting-name_of g d) (rw e refl)), lit< tt))
next d g (k4 takes asks grants other) at_terminal = (k5 takes asks grants other, refl, lit< tt)
next d g (k4 takes asks grants other) at_host = tt
next d g (k5 takes asks grants other) at_terminal = tt
next d g (k5 takes asks grants other) at_host = (k6 takes asks grants, rw (is_short_name d) (rw (fitting-name_of g d) (rw other (rw (is_equal_name d) refl))), lit< tt)
next d g (k6 takes asks grants) at_terminal = tt
next d g (k6 takes asks grants) at_host = tt
next d g (g00 takes asks grants) at_terminal = (g10 takes asks grants, refl, lit< tt)
next d g (g00 takes asks grants) at_host = tt
next d g (g10 takes asks grants) at_terminal = (g20 takes asks grants, refl, lit< tt)
next d g (g10 takes asks grants) at_host = (g11 takes asks grants, refl, lit< tt)
next d g (g11 takes asks grants) at_terminal = (g21 takes asks grants, refl, lit< tt)
next d g (g11 takes asks grants) at_host = tt
next d g (g20 takes asks grants) at_terminal = (g30 takes asks grants, refl, lit< tt)
next d g (g20 takes asks grants) at_host = (g21 takes asks grants, refl, lit< tt)
next d g (g21 takes asks grants) at_terminal = (g31 takes asks grants, refl, lit< tt)
next d g (g21 takes asks grants) at_host = (g22 takes asks grants, refl, lit< tt)
next d g (g22 takes asks grants) at_terminal = (g32 takes asks grants, refl, lit< tt)
next d g (g22 takes asks grants) at_host = tt
next d g (g30 true asks grants) at_terminal = (g40 true asks grants, refl, lit< tt)
next d g (g30 false asks grants) at_terminal = (g40 false asks grants, refl, lit< tt)
next d g (g30 takes asks grants) at_host = (g31 takes asks grants, refl, lit< tt)
next d g (g31 true asks grants) at_terminal = (g41 true asks grants, refl, lit< tt)
next d g (g31 false asks grants) at_terminal = (g41 false asks grants, refl, lit< tt)
next d g (g31 takes asks grants) at_host = (g32 takes asks grants, refl, lit< tt)
next d g (g32 true asks grants) at_terminal = (g42 true asks grants, refl, lit< tt)
next d g (g32 false asks grants) at_terminal = (g42 false asks grants, refl, lit< tt)
next d g (g32 takes asks grants) at_host = (g33 takes asks grants, refl, lit< tt)
next d g (g33 true asks grants) at_terminal = (g43 true asks grants, refl, lit< tt)
next d g (g33 false asks grants) at_terminal = (g43 false asks grants, refl, lit< tt)
next d g (g33 takes asks grants) at_host = tt
next d g (g40 takes asks grants) at_terminal = tt
next d g (g40 takes asks grants) at_host = (g41 takes asks grants, refl, lit< tt)
next d g (g41 takes asks grants) at_terminal = tt
next d g (g41 takes asks grants) at_host = (g42 takes asks grants, refl, lit< tt)
next d g (g42 takes asks grants) at_terminal = tt
next d g (g42 takes asks grants) at_host = (g43 takes asks grants, refl, lit< tt)
next d g (g43 takes asks grants) at_terminal = tt
next d g (g43 takes asks grants) at_host = (g44 takes asks grants, refl, lit< tt)
next d g (g44 takes asks grants) at_terminal = tt
next d g (g44 takes asks grants) at_host = tt

-- at each stage two ready cores agree, and where nothing is on its way the pair is settled
pub holds : (d : DeviceValue) (g : Sizes) (s : Stage d g) → Holds tolerant IsSettledTolerant (state d g s)
holds d g (e0 asks grants) = (λ a b x y. cc, λ none all. cc)
holds d g (e1 asks grants) = (λ a b x y. cc, λ none all. cc)
holds d g (e2 asks grants) = (λ a b x y. cc, λ none all. cc)
holds d g (e3 asks grants) = (λ a b x y. cc, λ none all. cc)
holds d g (r4 asks grants) = (λ a b x y. cc, λ none all. cc)
holds d g (r5 asks grants) = (λ a b x y. cc, λ none all. cc)
holds d g (r6 asks grants) = (λ a b x y. cc, λ none all. inr (inl (0, lit< tt, refl)))
holds d g (e4 asks grants) = (λ a b x y. cc, λ none all. cc)
holds d g (e5 asks grants) = (λ a b x y. cc, λ none all. cc)
holds d g (e6 asks grants) = (λ a b x y. cc, λ none all. cc)
holds d g (e7 asks grants) = (λ a b x y. cc, λ none all. inl (_, refl, refl))
holds d g f6 = (λ a b x y. cc, λ none all. cc)
holds d g f7 = (λ a b x y. cc, λ none all. cc)
holds d g f8 = (λ a b x y. cc, λ none all. inl (_, refl, refl))
holds d g (x0 asks grants) = (λ a b x y. cc, λ none all. cc)
holds d g (x1 asks grants) = (λ a b x y. cc, λ none all. cc)
holds d g (k0 true asks grants) = (λ a b x y. cc, λ none all. cc)
holds d g (k0 false asks grants) = (λ a b x y. cc, λ none all. cc)
holds d g (k1 true asks grants) = (λ a b x y. cc, λ none all. cc)
holds d g (k1 false asks grants) = (λ a b x y. cc, λ none all. cc)
holds d g (k2 true asks grants) = (λ a b x y. cc, λ none all. cc)
holds d g (k2 false asks grants) = (λ a b x y. cc, λ none all. cc)
holds d g (k3 true asks grants) = (λ a b x y. cc, λ none all. cc)
holds d g (k3 false asks grants) = (λ a b x y. cc, λ none all. cc)
holds d g (k4 true asks grants other) = (λ a b x y. cc, λ none all. cc)
holds d g (k4 false asks grants other) = (λ a b x y. cc, λ none all. cc)
holds d g (k5 true asks grants other) = (λ a b x y. cc, λ none all. cc)
holds d g (k5 false asks grants other) = (λ a b x y. cc, λ none all. cc)
holds d g (k6 true asks grants) = (λ a b x y. cc, λ none all. inr (inr (0, lit< tt, refl)))
holds d g (k6 false asks grants) = (λ a b x y. cc, λ none all. inr (inr (0, lit< tt, refl)))
holds d g (g00 true asks grants) = (λ a b x y. cc, λ none all. cc)
holds d g (g00 false asks grants) = (λ a b x y. cc, λ none all. cc)
holds d g (g10 true asks grants) = (λ a b x y. cc, λ none all. cc)
holds d g (g10 false asks grants) = (λ a b x y. cc, λ none all. cc)
holds d g (g11 true asks grants) = (λ a b x y. cc, λ none all. cc)
holds d g (g11 false asks grants) = (λ a b x y. cc, λ none all. cc)
holds d g (g20 true asks grants) = (λ a b x y. cc, λ none all. cc)
holds d g (g20 false asks grants) = (λ a b x y. cc, λ none all. cc)
holds d g (g21 true asks grants) = (λ a b x y. cc, λ none all. cc)
holds d g (g21 false asks grants) = (λ a b x y. cc, λ none all. cc)
holds d g (g22 true asks grants) = (λ a b x y. cc, λ none all. cc)
holds d g (g22 false asks grants) = (λ a b x y. cc, λ none all. cc)
holds d g (g30 true asks grants) = (λ a b x y. cc, λ none all. cc)
holds d g (g30 false asks grants) = (λ a b x y. cc, λ none all. cc)
holds d g (g31 true asks grants) = (λ a b x y. cc, λ none all. cc)
holds d g (g31 false asks grants) = (λ a b x y. cc, λ none all. cc)
holds d g (g32 true asks grants) = (λ a b x y. cc, λ none all. cc)
holds d g (g32 false asks grants) = (λ a b x y. cc, λ none all. cc)
holds d g (g33 true asks grants) = (λ a b x y. cc, λ none all. cc)
holds d g (g33 false asks grants) = (λ a b x y. cc, λ none all. cc)
holds d g (g40 true asks grants) = (λ a b x y. cc, λ none all. cc)
holds d g (g40 false asks grants) = (λ a b x y. cc, λ none all. cc)
holds d g (g41 true asks grants) = (λ a b x y. cc, λ none all. cc)
holds d g (g41 false asks grants) = (λ a b x y. cc, λ none all. cc)
holds d g (g42 true asks grants) = (λ a b x y. cc, λ none all. cc)
holds d g (g42 false asks grants) = (λ a b x y. cc, λ none all. cc)
holds d g (g43 true asks grants) = (λ a b x y. cc, λ none all. cc)
holds d g (g43 false asks grants) = (λ a b x y. cc, λ none all. cc)
holds d g (g44 true asks grants) = (λ a b x y. cc, λ none all. inl (_, refl, refl))
holds d g (g44 false asks grants) = (λ a b x y. cc, λ none all. inl (_, refl, refl))
