-- Records that lines tell.
use Rattle.std.proofs.Common.{◌≡◌, ◌≤◌, ℕ, ◌+◌, ◌&&◌, Bool, true, false, not, cond, ltb, List, [], ◌∷◌, ◌++◌, length, Option, Some, None, Ok, Err, refl, sym, ap, ◌∙◌, arith, inl, inr, append_assoc, append-nil, length-append}
use Rattle.std.specs.Prelude.{Result}
use Rattle.std.specs.Str.{is_utf8}
use Rattle.std.proofs.lemmas.Bool.{ltb-false, le-ltb}
use Rattle.hex.specs.declared.error.FromHexError.{FromHexError}
use Rattle.hex.specs.Hex.{decode_of}
use Rattle.ds_codec.specs.Geometry.{Sizes}
use Rattle.ds_codec.specs.Reading.{◌>>=◌}
use Rattle.cli_commands.specs.declared.fault.Fault.{Fault}
use Rattle.cli_commands.specs.declared.fault.Fault.TheVariants.{TooLong}
use Rattle.cli_commands.specs.declared.input.sizes.SizeLine.{SizeLine}
use Rattle.cli_commands.specs.declared.input.sizes.SizeLine.TheVariants.{Refused}
use Rattle.cli_commands.specs.Lines.{is_ignored}
use Rattle.cli_commands.specs.Records.{Line, ignored, bad, record_told, sizes_or, without_spaces, Records, no_records, after_line, take_record}
use Rattle.cli_commands.specs.Says.{telling, SpellsRecord, SpellRecords, SizesAndRecords, TellRecords, RecordsAreTold}
use Rattle.cli_commands.specs.Sizes.{usual_sizes, sizes_told}
use Rattle.cli_commands.specs.Taking.{taken}

abbrev refused : Sizes → List (List ℕ) → Records
refused geometry records = record { size_line = Refused; geometry = geometry; records = records }

abbrev line_by : Bool → Bool → Option Sizes → Result (List ℕ) FromHexError → Line
line_by text silent told digits = cond text (cond silent ignored (sizes_or told (record_told digits))) bad

-- ---- what is told is spelled

abbrev Tells : Sizes → List (List ℕ) → List (List ℕ) → Records → Type 0
Tells geometry before lines told =
    (more : List (List ℕ)) × (told ≡ refused geometry (before ++ more)) × SpellRecords (telling lines) more × (length (before ++ more) ≤ 1000)

-- where there is room
abbrev room : Bool → Result (Unit {0}) Fault
room over = cond over (Err TooLong) (Ok tt)

limited : (bytes : List ℕ) (before : List (List ℕ)) (next : Records) (others : Records → Result Records Fault) (told : Records) (P : Type 0)
    → ((room (ltb 32768 (length bytes)) >>= λ short. (room (ltb 1000 (length before + 1)) >>= λ few. Ok next)) >>= others) ≡ Ok told
    → (length bytes ≤ 32768 → length before + 1 ≤ 1000 → others next ≡ Ok told → P) → P
limited bytes before next others told P is goes =
    elim (ltb 32768 (length bytes)) as (λ t. ltb 32768 (length bytes) ≡ t
    → ((room t >>= λ short. (room (ltb 1000 (length before + 1)) >>= λ few. Ok next)) >>= others) ≡ Ok told → P) [
      | true ↦ λ test over. absurd cc
      | false ↦ λ test told. few_enough (ltb-false _ _ test) told
    ] refl is
  where
    few_enough : length bytes ≤ 32768 → ((room (ltb 1000 (length before + 1)) >>= λ few. Ok next) >>= others) ≡ Ok told → P
    few_enough short is =
        elim (ltb 1000 (length before + 1)) as (λ t. ltb 1000 (length before + 1) ≡ t → ((room t >>= λ few. Ok next) >>= others) ≡ Ok told → P) [
          | true ↦ λ test over. absurd cc
          | false ↦ λ test told. goes short (ltb-false _ _ test) told
        ] refl is

abbrev Others : ℕ → Sizes → List (List ℕ) → Records → Type 0
Others number geometry lines told =
    (before : List (List ℕ)) → length before ≤ 1000 → taken take_record (number + 1) (refused geometry before) lines ≡ Ok told → Tells geometry before lines told

one_spelled : (geometry : Sizes) (before : List (List ℕ)) (line bytes : List ℕ) (lines : List (List ℕ)) (told : Records) → is_utf8 line ≡ true → is_ignored (without_spaces line) ≡ false
    → SpellsRecord line bytes → Tells geometry (before ++ bytes ∷ []) lines told → Tells geometry before (line ∷ lines) told
one_spelled geometry before line bytes lines told text_is silent_is spells (more, same, others, few) =
    let assoc = append_assoc before (bytes ∷ []) more in
    rw (text_is, silent_is) (bytes ∷ more, same ∙ ap (refused geometry) assoc, (spells, others), rw assoc at few)

refused_line : (text silent : Bool) (digits : Result (List ℕ) FromHexError) (line : List ℕ) (lines : List (List ℕ)) (number : ℕ) (geometry : Sizes) (before : List (List ℕ)) (told : Records)
    → length before ≤ 1000 → is_utf8 line ≡ text → is_ignored (without_spaces line) ≡ silent → decode_of (without_spaces line) ≡ digits
    → (after_line number (refused geometry before) (line_by text silent None digits) >>= λ next. taken take_record (number + 1) next lines) ≡ Ok told
    → Others number geometry lines told → Tells geometry before (line ∷ lines) told
refused_line false silent digits line lines number geometry before told few text_is silent_is digits_is is others = absurd cc
refused_line true true digits line lines number geometry before told few text_is silent_is digits_is is others = rw (text_is, silent_is) (others before few is)
refused_line true false (Err e) line lines number geometry before told few text_is silent_is digits_is is others = absurd cc
refused_line true false (Ok bytes) line lines number geometry before told few text_is silent_is digits_is is others =
    limited bytes before (refused geometry (before ++ bytes ∷ [])) (λ next. taken take_record (number + 1) next lines) told (Tells geometry before (line ∷ lines) told) is
    (λ short room goes.
    one_spelled geometry before line bytes lines told text_is silent_is (record { is_text = text_is; digits = digits_is; short = short })
    (others (before ++ bytes ∷ []) (omega (arith, length-append before (bytes ∷ []))) goes))

told_refused : (lines : List (List ℕ)) (number : ℕ) (geometry : Sizes) (before : List (List ℕ)) (told : Records) → length before ≤ 1000
    → taken take_record number (refused geometry before) lines ≡ Ok told → Tells geometry before lines told
told_refused [] number geometry before told few is =
    let same : refused geometry before ≡ told = cc in
    ([], sym same ∙ ap (refused geometry) (sym (append-nil before)), tt, rw (append-nil before) few)
told_refused (line ∷ lines) number geometry before told few is =
    refused_line (is_utf8 line) (is_ignored (without_spaces line)) (decode_of (without_spaces line)) line lines number geometry before told few refl refl refl is
    (λ others room goes. told_refused lines (number + 1) geometry others told room goes)

-- ---- the first line that is not ignored

abbrev Starts : SizeLine → List (List ℕ) → Records → Type 0
Starts size_line lines told = SizesAndRecords size_line (telling lines) told.geometry told.records × (length told.records ≤ 1000)

sized : (size_line : SizeLine) (line : List ℕ) (lines : List (List ℕ)) (geometry : Sizes) (told : Records) → is_utf8 line ≡ true → is_ignored (without_spaces line) ≡ false
    → sizes_told size_line line ≡ Some geometry → Tells geometry [] lines told → Starts size_line (line ∷ lines) told
sized size_line line lines geometry told text_is silent_is sizes_is (more, same, spells, few) =
    rw (same, text_is, silent_is) (inl (line, telling lines, refl, text_is, sizes_is, spells), few)

unsized : (size_line : SizeLine) (line bytes : List ℕ) (lines : List (List ℕ)) (told : Records) → is_utf8 line ≡ true → is_ignored (without_spaces line) ≡ false
    → sizes_told size_line line ≡ None → SpellsRecord line bytes → Tells usual_sizes (bytes ∷ []) lines told → Starts size_line (line ∷ lines) told
unsized size_line line bytes lines told text_is silent_is sizes_is one (more, same, spells, few) =
    rw (same, text_is, silent_is) (inr (sizes_is, refl, (one, spells)), few)

start_line : (text silent : Bool) (told_sizes : Option Sizes) (digits : Result (List ℕ) FromHexError) (size_line : SizeLine) (line : List ℕ) (lines : List (List ℕ)) (number : ℕ) (told : Records)
    → is_utf8 line ≡ text → is_ignored (without_spaces line) ≡ silent → sizes_told size_line line ≡ told_sizes → decode_of (without_spaces line) ≡ digits
    → (after_line number (no_records size_line) (line_by text silent told_sizes digits) >>= λ next. taken take_record (number + 1) next lines) ≡ Ok told
    → (taken take_record (number + 1) (no_records size_line) lines ≡ Ok told → Starts size_line lines told) → Starts size_line (line ∷ lines) told
start_line false silent told_sizes digits size_line line lines number told text_is silent_is sizes_is digits_is is others = absurd cc
start_line true true told_sizes digits size_line line lines number told text_is silent_is sizes_is digits_is is others = rw (text_is, silent_is) (others is)
start_line true false (Some geometry) digits size_line line lines number told text_is silent_is sizes_is digits_is is others =
    sized size_line line lines geometry told text_is silent_is sizes_is (told_refused lines (number + 1) geometry [] told (omega arith) is)
start_line true false None (Err e) size_line line lines number told text_is silent_is sizes_is digits_is is others = absurd cc
start_line true false None (Ok bytes) size_line line lines number told text_is silent_is sizes_is digits_is is others =
    limited bytes [] (refused usual_sizes (bytes ∷ [])) (λ next. taken take_record (number + 1) next lines) told (Starts size_line (line ∷ lines) told) is
    (λ short room goes.
    unsized size_line line bytes lines told text_is silent_is sizes_is (record { is_text = text_is; digits = digits_is; short = short })
    (told_refused lines (number + 1) usual_sizes (bytes ∷ []) told (omega arith) goes))

starts : (lines : List (List ℕ)) (number : ℕ) (size_line : SizeLine) (told : Records) → taken take_record number (no_records size_line) lines ≡ Ok told → Starts size_line lines told
starts [] number size_line told is = let same : no_records size_line ≡ told = cc in rw (← same) (inr (tt, refl, tt), omega arith)
starts (line ∷ lines) number size_line told is =
    start_line (is_utf8 line) (is_ignored (without_spaces line)) (sizes_told size_line line) (decode_of (without_spaces line)) size_line line lines number told refl refl refl refl is
    (λ goes. starts lines (number + 1) size_line told goes)

-- ---- what is spelled is told

abbrev Again : ℕ → Sizes → List (List ℕ) → List (List ℕ) → List (List ℕ) → Type 0
Again number geometry before lines more = taken take_record number (refused geometry before) lines ≡ Ok (refused geometry (before ++ more))

again_one : (size_line : SizeLine) (line bytes : List ℕ) (lines : List (List ℕ)) (number : ℕ) (geometry : Sizes) (before more : List (List ℕ)) → SpellsRecord line bytes → length (before ++ bytes ∷ more) ≤ 1000
    → Again (number + 1) geometry (before ++ bytes ∷ []) lines more
    → (after_line number (record { size_line = size_line; geometry = geometry; records = before }) (line_by true false None (decode_of (without_spaces line))) >>= λ next. taken take_record (number + 1) next lines)
    ≡ Ok (refused geometry (before ++ bytes ∷ more))
again_one size_line line bytes lines number geometry before more spells few others =
    let short : ltb 32768 (length bytes) ≡ false = le-ltb _ _ spells.short in
    let room : ltb 1000 (length before + 1) ≡ false = le-ltb _ _ (omega (arith, few, length-append before (bytes ∷ more))) in
    let assoc = append_assoc before (bytes ∷ []) more in
    rw (spells.digits, short, room) (others ∙ ap (λ (all : List (List ℕ)). Ok (refused geometry all)) assoc)

again_line : (text silent : Bool) (line : List ℕ) (lines : List (List ℕ)) (number : ℕ) (geometry : Sizes) (before more : List (List ℕ)) → is_utf8 line ≡ text
    → SpellRecords (cond (not (text && silent)) (line ∷ telling lines) (telling lines)) more → length (before ++ more) ≤ 1000
    → ((first others : List (List ℕ)) → SpellRecords (telling lines) others → length (first ++ others) ≤ 1000 → Again (number + 1) geometry first lines others)
    → (after_line number (refused geometry before) (line_by text silent None (decode_of (without_spaces line))) >>= λ next. taken take_record (number + 1) next lines) ≡ Ok (refused geometry (before ++ more))
again_line true true line lines number geometry before more text_is spells few rest = rest before more spells few
again_line false silent line lines number geometry before [] text_is spells few rest = absurd spells
again_line false silent line lines number geometry before (bytes ∷ more) text_is (one, others) few rest = let good = one.is_text in absurd cc
again_line true false line lines number geometry before [] text_is spells few rest = absurd spells
again_line true false line lines number geometry before (bytes ∷ more) text_is (one, others) few rest =
    again_one Refused line bytes lines number geometry before more one few (rest (before ++ bytes ∷ []) more others (rw (append_assoc before (bytes ∷ []) more) few))

again_refused : (lines : List (List ℕ)) (number : ℕ) (geometry : Sizes) (before more : List (List ℕ)) → SpellRecords (telling lines) more → length (before ++ more) ≤ 1000 → Again number geometry before lines more
again_refused [] number geometry before [] spells few = rw (append-nil before) refl
again_refused [] number geometry before (bytes ∷ more) spells few = absurd spells
again_refused (line ∷ lines) number geometry before more spells few =
    again_line (is_utf8 line) (is_ignored (without_spaces line)) line lines number geometry before more refl spells few
    (λ first others spelled room. again_refused lines (number + 1) geometry first others spelled room)

abbrev StartsAgain : ℕ → SizeLine → List (List ℕ) → Sizes → List (List ℕ) → Type 0
StartsAgain number size_line lines geometry records =
    (later : SizeLine) × (taken take_record number (no_records size_line) lines ≡ Ok (record { size_line = later; geometry = geometry; records = records }))

abbrev LineAgain : Bool → Bool → ℕ → SizeLine → List ℕ → List (List ℕ) → Sizes → List (List ℕ) → Type 0
LineAgain text silent number size_line line lines geometry records =
    (later : SizeLine) × ((after_line number (no_records size_line) (line_by text silent (sizes_told size_line line) (decode_of (without_spaces line))) >>= λ next. taken take_record (number + 1) next lines)
    ≡ Ok (record { size_line = later; geometry = geometry; records = records }))

first_again : (text silent : Bool) (number : ℕ) (size_line : SizeLine) (line : List ℕ) (lines : List (List ℕ)) (geometry : Sizes) (records : List (List ℕ)) → is_utf8 line ≡ text
    → SizesAndRecords size_line (cond (not (text && silent)) (line ∷ telling lines) (telling lines)) geometry records → length records ≤ 1000
    → (SizesAndRecords size_line (telling lines) geometry records → StartsAgain (number + 1) size_line lines geometry records) → LineAgain text silent number size_line line lines geometry records
first_again true true number size_line line lines geometry records text_is tells few rest = rest tells
first_again false silent number size_line line lines geometry records text_is (inl (first, others, same, text, told, spells)) few rest =
    let one : line ≡ first = cc in let good : is_utf8 line ≡ true = rw one text in absurd cc
first_again false silent number size_line line lines geometry [] text_is (inr (no_sizes, usual, spells)) few rest = absurd spells
first_again false silent number size_line line lines geometry (bytes ∷ records) text_is (inr (no_sizes, usual, (one, spells))) few rest = let good = one.is_text in absurd cc
first_again true false number size_line line lines geometry records text_is (inl (first, others, same, text, told, spells)) few rest =
    let one : first ≡ line = cc in
    let all : others ≡ telling lines = cc in
    (Refused, rw (rw one at told) (again_refused lines (number + 1) geometry [] records (rw all at spells) few))
first_again true false number size_line line lines geometry [] text_is (inr (no_sizes, usual, spells)) few rest = absurd spells
first_again true false number size_line line lines geometry (bytes ∷ records) text_is (inr (no_sizes, usual, (one, spells))) few rest =
    (Refused, rw (no_sizes, usual) (again_one size_line line bytes lines number usual_sizes [] records one few (again_refused lines (number + 1) usual_sizes (bytes ∷ []) records spells few)))

starts_again : (lines : List (List ℕ)) (number : ℕ) (size_line : SizeLine) (geometry : Sizes) (records : List (List ℕ)) → SizesAndRecords size_line (telling lines) geometry records → length records ≤ 1000
    → StartsAgain number size_line lines geometry records
starts_again [] number size_line geometry records (inl (first, others, same, text, told, spells)) few = absurd cc
starts_again [] number size_line geometry [] (inr (no_sizes, usual, spells)) few = (size_line, rw usual refl)
starts_again [] number size_line geometry (bytes ∷ records) (inr (no_sizes, usual, spells)) few = absurd spells
starts_again (line ∷ lines) number size_line geometry records tells few =
    first_again (is_utf8 line) (is_ignored (without_spaces line)) number size_line line lines geometry records refl tells few
    (λ others. starts_again lines (number + 1) size_line geometry records others few)

pub records_are_told : RecordsAreTold
records_are_told size_line lines told = (
  λ (later, is). let s = starts lines 1 size_line (record told { size_line = later }) is in record { lines_tell = s.0; few = s.1 },
  λ (t : TellRecords size_line lines told). starts_again lines 1 size_line told.geometry told.records t.lines_tell t.few,
)
