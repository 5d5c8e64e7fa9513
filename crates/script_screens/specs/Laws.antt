-- Laws of what is read.
use Rattle.std.specs.Prelude.{◌≡◌, ◌≢◌, ◌⊎◌, ℕ, ◌<◌, ◌==◌, Bool, true, not, List, Option, Some, None}
use Rattle.std.specs.List.{list_all}
use Rattle.ds_screen.specs.Picture.{Picture}
use Rattle.ds_screen.specs.Shown.{printed_code}
use Rattle.script_screens.specs.declared.code_page.CodePage.{CodePage}
use Rattle.script_screens.specs.declared.code_page.CodePage.TheVariants.{CodePage037}
use Rattle.script_screens.specs.declared.reading.Reading.{Reading}
use Rattle.script_screens.specs.declared.snap.Kept.{Kept}
use Rattle.script_screens.specs.declared.query.Query.{Query}
use Rattle.script_screens.specs.Characters.{character_of, code_of}
use Rattle.script_screens.specs.Status.{Link}
use Rattle.script_screens.specs.Reading.{said_of_reading}
use Rattle.script_screens.specs.Snap.{said_of_kept}
use Rattle.script_screens.specs.Query.{Named, said_of_query}

-- the character of a code has this code
abbrev pub CharactersHaveCodes : Type 0
CharactersHaveCodes = (page : CodePage) (code character : ℕ) → code < 256 → character_of page code ≡ Some character → code_of page character ≡ Some code

-- and what has a code is its character
abbrev pub CodesHaveCharacters : Type 0
CodesHaveCharacters = (page : CodePage) (code character : ℕ) → code_of page character ≡ Some code → character_of page code ≡ Some character

-- no line's end
abbrev pub is_whole : List ℕ → Bool
is_whole text = list_all (λ byte. not (byte == 10)) text

abbrev pub are_whole : List (List ℕ) → Bool
are_whole texts = list_all is_whole texts

-- each data line of a reading action is one line
abbrev pub ReadingsAreLines : Type 0
ReadingsAreLines =
    (page : CodePage) (v : Picture) (reading : Reading) (arguments : List (List ℕ)) → are_whole (said_of_reading page v reading arguments).texts ≡ true

-- and of what is read of a kept screen, and of Query, where no name has a line's end
abbrev pub LinkIsWhole : Option Link → Type 0
LinkIsWhole None = Unit {0}
LinkIsWhole (Some link) = (is_whole link.host ≡ true) × (is_whole link.lu_name ≡ true)

abbrev pub KeptAreLines : Type 0
KeptAreLines =
    (page : CodePage) (v : Picture) (link : Option Link) (model : ℕ) (kept : Kept) (arguments : List (List ℕ)) → LinkIsWhole link
    → are_whole (said_of_kept page v link model kept arguments).texts ≡ true

abbrev pub QueriesAreLines : Type 0
QueriesAreLines =
    (v : Picture) (link : Option Link) (device : Named) (query : Query) (words : List (List ℕ)) → LinkIsWhole link
    → is_whole device.name ≡ true → is_whole device.version ≡ true → are_whole (said_of_query v link device query words).texts ≡ true

-- the 95 characters that a screen is printed with have these codes in 037: `?` is printed too for codes that have none of them
abbrev pub PrintedAreCharacters : Type 0
PrintedAreCharacters =
    (code : ℕ) → code < 256 → ((printed_code code ≢ 63) ⊎ (code ≡ 0x6F)) → character_of CodePage037 code ≡ Some (printed_code code)
