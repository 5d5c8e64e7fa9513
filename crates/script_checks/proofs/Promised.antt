-- What a yes of Check promises.
use Rattle.std.proofs.Common.{◌≡◌, ℕ, Bool, true, false, cond, List, [], ◌∷◌, map, Option, Some, None, refl, ◌∙◌, ap, subst, inl}
use Rattle.std.specs.Prelude.{Result, Ok, Err, ◌||◌}
use Rattle.std.specs.List.{list_any}
use Rattle.std.specs.Str.{is_utf8}
use Rattle.std.proofs.lemmas.List.{length-replicate}
use Rattle.ds_codec.specs.Geometry.{Sizes, cells_of}
use Rattle.ds_codec.specs.Reading.{◌>>=◌}
use Rattle.ds_screen.specs.Picture.{Picture, IsSound, blank}
use Rattle.ds_screen.specs.Records.{new_picture}
use Rattle.ds_screen.proofs.CharacterLaws.{nulls_real}
use Rattle.ds_screen.proofs.SoundLaws.{some_cells, no_key}
use Rattle.scr_layout.specs.declared.fault.LayoutFault.{LayoutFault}
use Rattle.scr_layout.specs.Entry.{Declared}
use Rattle.scr_layout.specs.Fault.{not_toml}
use Rattle.scr_layout.specs.Layout.{Declaration, IsLayout, layout_of}
use Rattle.scr_layout.proofs.LayoutLaw.{layout_of-law}
use Rattle.scr_check.specs.Leads.{IsPromised}
use Rattle.scr_check.specs.Any.{IsPromisedForAny, TalksKeepForAny}
use Rattle.scr_check.specs.Talk.{TalksKeep}
use Rattle.scr_check.specs.Opening.{opening_of}
use Rattle.scr_check.specs.Walk.{Stop, walk_of, walk_from}
use Rattle.scr_check.proofs.LeadLaws.{opened_leads}
use Rattle.scr_check.proofs.UserLaw.{leads_sound}
use Rattle.scr_check.proofs.VerdictLaws.{clean_promised, clean_for_any}
use Rattle.scr_check.proofs.AnyTalk.{talks_keep_for_any}
use Rattle.scr_check.proofs.OwnTalk.{own_talks}
use Rattle.scr_check.proofs.TalkKeeps.{GoesOn, first_goes}
use Rattle.cli_commands.specs.declared.fault.Fault.{Fault}
use Rattle.cli_commands.specs.LayoutText as layouts
use Rattle.cli_commands.specs.Lines.{within_limit}
use Rattle.ds_codec.specs.Same.{same_sizes}
use Rattle.script_screens.specs.declared.lines.Outcome.TheVariants.{Done}
use Rattle.tn_session.specs.Kept.{Kept}
use Rattle.script_checks.specs.declared.read.LayoutRefusal.TheVariants.{OtherSizes}
use Rattle.script_checks.specs.Laws.{IsChecked, Promised, YesIsPromised}
use Rattle.script_checks.specs.Read.{fitting_said}
use Rattle.script_checks.specs.Said.{layout_said, verdict_said}
use Rattle.script_checks.specs.Turns.{are_several, rounds_with, turns_of, this_turn, later_turns, stop_of}
use Rattle.script_checks.proofs.Geometry.{one_geometry}

-- ---- a text that is a layout says one

of_test : (test : Bool) (bytes : List ℕ) (layout : Declaration) → cond test (layout_of bytes) (Err not_toml) ≡ Ok layout → IsLayout layout
of_test true bytes layout is = layout_of-law bytes layout is
of_test false bytes layout is = absurd cc

or_fault : (r : Result Declaration LayoutFault) (layout : Declaration) → layouts.layout_or_fault r ≡ Ok layout → r ≡ Ok layout
or_fault (Ok found) layout is = let same : found ≡ layout = cc in ap (λ l. Ok l) same
or_fault (Err fault) layout is = absurd cc

of_text : (r : Result (List ℕ) Fault) (layout : Declaration) → (r >>= λ text. layouts.layout_or_fault (layouts.layout_said text)) ≡ Ok layout → IsLayout layout
of_text (Ok text) layout is = of_test (is_utf8 text) text layout (or_fault (layouts.layout_said text) layout is)
of_text (Err fault) layout is = absurd cc

pub read_is_layout : (text : List ℕ) (layout : Declaration) → layouts.layout_in text ≡ Ok layout → IsLayout layout
read_is_layout text layout is = of_text (within_limit text) layout is

-- ---- the turns

-- a new terminal of a layout's geometry is sound
new_sound : (layout : Declaration) → IsLayout layout → IsSound (new_picture layout.geometry)
new_sound layout law =
    record {
      default_good = law.default;
      alternate_good = law.alternate;
      one_of_two = inl refl;
      whole = length-replicate (cells_of layout.geometry.default) blank;
      cursor_inside = some_cells layout.geometry.mode layout.geometry.default law.default;
      characters = nulls_real (cells_of layout.geometry.default);
      attention = no_key;
    }

opened_sound : (layout : Declaration) (records : List (List ℕ)) (opened : Picture) → IsLayout layout → opening_of layout records ≡ Ok opened → IsSound opened
opened_sound layout records opened law opens = leads_sound (new_picture layout.geometry) opened records (new_sound layout law) (opened_leads layout records opened opens)

goes : (layout : Declaration) (records : List (List ℕ)) (turns : List (List (List ℕ))) → walk_of (rounds_with layout (records ∷ turns)) ≡ None
    → GoesOn layout (opening_of layout records) (λ v. walk_from 1 v (rounds_with layout turns))
unfolding walk_of
goes layout records turns none = first_goes layout (opening_of layout records) (λ v. walk_from 1 v (rounds_with layout turns)) none

any_turns : (layout : Declaration) (records : List (List ℕ)) (turns : List (List (List ℕ))) → IsLayout layout → walk_of (rounds_with layout (records ∷ turns)) ≡ None
    → TalksKeepForAny (rounds_with layout (records ∷ turns))
any_turns layout records turns law none =
    let on = goes layout records turns none in
    talks_keep_for_any (record { records = records; layout = layout }) (rounds_with layout turns) on.next on.opens (opened_sound layout records on.next law on.opens)
    (one_geometry layout (records ∷ turns)) none

own_turns : (layout : Declaration) (records : List (List ℕ)) (turns : List (List (List ℕ))) → IsLayout layout → walk_of (rounds_with layout (records ∷ turns)) ≡ None
    → TalksKeep (rounds_with layout (records ∷ turns))
own_turns layout records turns law none =
    own_talks (rounds_with layout (records ∷ turns)) (one_geometry layout (records ∷ turns)) (any_turns layout records turns law none)

one_turn : (layout : Declaration) (records : List (List ℕ)) (turns : List (List (List ℕ))) → IsLayout layout → walk_of (rounds_with layout (records ∷ turns)) ≡ None → IsPromised layout records
one_turn layout records turns law none =
    let on = goes layout records turns none in
    clean_promised layout records on.next on.opens (opened_sound layout records on.next law on.opens) on.clean

one_turn_for_any : (layout : Declaration) (records : List (List ℕ)) (turns : List (List (List ℕ))) → IsLayout layout → walk_of (rounds_with layout (records ∷ turns)) ≡ None
    → IsPromisedForAny layout records
one_turn_for_any layout records turns law none =
    let on = goes layout records turns none in
    clean_for_any layout records on.next on.opens (opened_sound layout records on.next law on.opens) on.clean

-- ---- where no record begins a turn there is one

abbrev pub bytes_of : Kept → List ℕ
bytes_of kept = kept.bytes

goes_on : (kept : Kept) (others : List Kept) → (kept.begins_turn || list_any (λ other. other.begins_turn) others) ≡ false
    → (kept.begins_turn ≡ false) × (list_any (λ other. other.begins_turn) others ≡ false)
goes_on kept others none = by kept.begins_turn (list_any (λ other. other.begins_turn) others) none
  where
    by : (a b : Bool) → (a || b) ≡ false → (a ≡ false) × (b ≡ false)
    by true b is = absurd cc
    by false b is = (refl, is)

whole_turn : (others : List Kept) → list_any (λ other. other.begins_turn) others ≡ false → this_turn others ≡ map bytes_of others
whole_turn [] none = refl
whole_turn (kept ∷ others) none =
    let parts = goes_on kept others none in
    ap (λ t. cond t [] (kept.bytes ∷ this_turn others)) parts.0 ∙ ap (λ rest. kept.bytes ∷ rest) (whole_turn others parts.1)

pub no_later : (others : List Kept) → list_any (λ other. other.begins_turn) others ≡ false → later_turns others ≡ []
no_later [] none = refl
no_later (kept ∷ others) none =
    let parts = goes_on kept others none in
    ap (λ t. cond t ((kept.bytes ∷ this_turn others) ∷ later_turns others) (later_turns others)) parts.0 ∙ no_later others parts.1

pub only_turn : (kept : List Kept) → are_several kept ≡ false → turns_of kept ≡ map bytes_of kept ∷ []
only_turn [] none = refl
only_turn (first ∷ others) none =
    ap (λ rest. (first.bytes ∷ rest) ∷ later_turns others) (whole_turn others none) ∙ ap (λ turns. (first.bytes ∷ map bytes_of others) ∷ turns) (no_later others none)

checked : (layout : Declaration) (kept : List Kept) → IsLayout layout → stop_of layout kept ≡ None → IsChecked kept layout
checked layout [] law none =
    record {
      one = λ single. one_turn layout [] [] law none;
      one_for_any = λ single. one_turn_for_any layout [] [] law none;
      turns = own_turns layout [] [] law none;
      turns_for_any = any_turns layout [] [] law none;
    }
checked layout (first ∷ others) law none =
    let records : List (List ℕ) = first.bytes ∷ this_turn others in
    let turns = later_turns others in
    record {
      one = λ single. subst (λ rest. IsPromised layout (first.bytes ∷ rest)) (whole_turn others single) (one_turn layout records turns law none);
      one_for_any = λ single. subst (λ rest. IsPromisedForAny layout (first.bytes ∷ rest)) (whole_turn others single) (one_turn_for_any layout records turns law none);
      turns = own_turns layout records turns law none;
      turns_for_any = any_turns layout records turns law none;
    }

-- ---- Check

no_stop : (entries : List Declared) (several : Bool) (stop : Option Stop) → (verdict_said entries several stop).outcome ≡ Done → stop ≡ None
no_stop entries several None is = refl
no_stop entries several (Some stop) is = absurd cc

kept_yes : (turns : Option (List Kept)) (geometry : Sizes) (text : List ℕ) (layout : Declaration) → layouts.layout_in text ≡ Ok layout → same_sizes layout.geometry geometry ≡ true
    → (layout_said turns (Ok layout)).outcome ≡ Done → (kept : List Kept) × (turns ≡ Some kept) × Promised kept geometry text
kept_yes None geometry text layout reads fits is = absurd cc
kept_yes (Some kept) geometry text layout reads fits is = (
  kept,
  refl,
  record {
    layout = layout;
    reads = reads;
    fits = fits;
    checked = checked layout kept (read_is_layout text layout reads) (no_stop layout.entries (are_several kept) (stop_of layout kept) is);
  },
)

fits_yes : (test : Bool) (turns : Option (List Kept)) (geometry : Sizes) (text : List ℕ) (layout : Declaration) → layouts.layout_in text ≡ Ok layout → same_sizes layout.geometry geometry ≡ test
    → (layout_said turns (cond test (Ok layout) (Err OtherSizes))).outcome ≡ Done → (kept : List Kept) × (turns ≡ Some kept) × Promised kept geometry text
fits_yes true turns geometry text layout reads fits is = kept_yes turns geometry text layout reads fits is
fits_yes false turns geometry text layout reads fits is = absurd cc

reads_yes : (r : Result Declaration Fault) (turns : Option (List Kept)) (geometry : Sizes) (text : List ℕ) → layouts.layout_in text ≡ r
    → (layout_said turns (fitting_said geometry r)).outcome ≡ Done → (kept : List Kept) × (turns ≡ Some kept) × Promised kept geometry text
reads_yes (Ok layout) turns geometry text reads is = fits_yes (same_sizes layout.geometry geometry) turns geometry text layout reads refl is
reads_yes (Err fault) turns geometry text reads is = absurd cc

pub yes_is_promised : YesIsPromised
yes_is_promised turns geometry path text is = reads_yes (layouts.layout_in text) turns geometry text refl is
