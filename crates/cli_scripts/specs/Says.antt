-- What each action says that presses no key: each is given to the function of its name.
use Rattle.std.specs.Prelude.{◌≡◌, ℕ, Bool, true, false, ◌&&◌, is_some, unwrap_or, List, [], ◌∷◌, ◌++◌, codes, Option, Some, None, Result, Ok, Err, if◌then◌else◌}
use Rattle.std.specs.Fmt.{decimal}
use Rattle.std.specs.Str.{str_eq_ignore_ascii_case}
use Rattle.ds_screen.specs.Picture.{Picture}
use Rattle.script_keys.specs.Actions.{Action, keys, connect, disconnect, quit, other}
use Rattle.script_keys.specs.Faults.{Fault, fault_text}
use Rattle.script_requests.specs.Addresses.{Address, read_address, address_fault_text}
use Rattle.script_requests.specs.declared.address.AddressFault.{AddressFault}
use Rattle.script_screens.specs.declared.code_page.CodePage.{CodePage}
use Rattle.script_screens.specs.declared.lines.Outcome.{Outcome}
use Rattle.script_screens.specs.declared.lines.Outcome.TheVariants as outcomes
use Rattle.script_screens.specs.declared.reading.Reading.{Reading}
use Rattle.script_screens.specs.declared.reading.Reading.TheVariants as readings
use Rattle.script_screens.specs.declared.snap.Kept.{Kept}
use Rattle.script_screens.specs.declared.snap.Snap.{Snap}
use Rattle.script_screens.specs.declared.snap.Snap.TheVariants as snaps
use Rattle.script_screens.specs.declared.snap.SnapFault.TheVariants.{NotSaved}
use Rattle.script_screens.specs.Lines.{Said, Says, done, failed, data_lines}
use Rattle.script_screens.specs.Reading.{said_of_reading}
use Rattle.script_screens.specs.Snap.{snap_of, said_of_kept, snap_fault_words}
use Rattle.script_screens.specs.Status.{status_line}
use Rattle.script_checks.specs.Said.{said_of_check}
use Rattle.tn_cores.specs.Devices.{sizes_of}
use Rattle.tn_session.specs.Kept.{Kept as KeptRecord}
use Rattle.tn_session.specs.TerminalTalk.{OfStanding, agreed_in, records_kept}
use Rattle.cli_scripts.specs.Answers.{Telling, printed_text, last_line}
use Rattle.cli_scripts.specs.Desks.{Worked, NamedHost, Shows, TellsQuery, device_in, model_number, protocol_of, link_in, link_of_host}
use Rattle.cli_scripts.specs.Kinds.{kind_of}
use Rattle.cli_scripts.specs.Settings.{changed}
use Rattle.cli_scripts.specs.declared.came.Need.TheVariants.{Bytes, Connection, Page, Layout}
use Rattle.cli_scripts.specs.declared.doing.Doing.TheVariants.{Calling, Checking, Opening, Writing}
use Rattle.cli_scripts.specs.declared.doing.Step.{Step}
use Rattle.cli_scripts.specs.declared.doing.Step.TheVariants.{Ended, Quits, Waits}
use Rattle.cli_scripts.specs.declared.kept.KeptScreen.{KeptScreen}
use Rattle.cli_scripts.specs.declared.kind.Kind.{Kind}
use Rattle.cli_scripts.specs.declared.kind.Kind.TheVariants as kinds
use Rattle.cli_scripts.specs.declared.worker.Worker.{Worker}

-- ---- an action that ends with what it says

abbrev pub EndsSaying : Said → Step → List ℕ → List ℕ → Type 0
EndsSaying said step old new = (step ≡ Ended said.outcome) × (new ≡ old ++ data_lines said.texts)

-- ---- whole answers

-- data lines, the status line of what is shown, and how the line ended
abbrev pub TellsAnswer : Worked → List ℕ → Outcome → List ℕ → Type 0
TellsAnswer w said outcome text =
    (v : Picture) × Shows w v × (text ≡ said ++ (status_line v (link_in w []) (model_number (device_in w).model) ++ last_line outcome))

-- it comes after those that were finished before
abbrev pub TellsNext : Worked → List ℕ → Outcome → Telling → Telling → Type 0
TellsNext w said outcome old new = (text : List ℕ) × (new.lines ≡ old.lines ++ text) × TellsAnswer w said outcome text

-- ---- reading

-- what is shown is read, which is noted
abbrev pub Reads : CodePage → Reading → List (List ℕ) → Worked → List ℕ → Outcome → Worked → List ℕ → Type 0
Reads page reading arguments w before outcome new after =
    ((v : Picture) × Shows w v × Says before after outcome (said_of_reading page v reading arguments)) × (new ≡ record w { was_read = true })

-- a copy of what is shown, and of what was known of the connection
abbrev pub IsCopyOf : Worked → Option KeptScreen → Type 0
IsCopyOf w None = ⊥
IsCopyOf w (Some it) =
    Shows w it.screen × (it.host ≡ w.host) × (it.protocol ≡ protocol_of (agreed_in w.talk)) × (it.model ≡ model_number (device_in w).model)

abbrev pub after_first : List (List ℕ) → List (List ℕ)
after_first [] = []
after_first (word ∷ words) = words

abbrev pub said_of_copy : CodePage → Option KeptScreen → Kept → List (List ℕ) → Said
said_of_copy page None kept words = failed (codes "Snap(): " ++ snap_fault_words NotSaved)
said_of_copy page (Some it) kept words = said_of_kept page it.screen (link_of_host it.host it.protocol []) it.model kept words

-- Snap keeps the screen, or reads what was kept
abbrev pub Snaps : Snap → CodePage → List (List ℕ) → Worked → Option KeptScreen → List ℕ → Outcome → Option KeptScreen → List ℕ → Type 0
Snaps snaps.Save page arguments w kept before outcome new after = IsCopyOf w new × Says before after outcome (done [])
Snaps (snaps.Kept it) page arguments w kept before outcome new after =
    (new ≡ kept) × Says before after outcome (said_of_copy page kept it (after_first arguments))
Snaps (snaps.Fault fault) page arguments w kept before outcome new after =
    (new ≡ kept) × Says before after outcome (failed (codes "Snap(): " ++ snap_fault_words fault))

-- ---- files

-- what PrintText is asked for: the screen as data lines, as a page in a file, or neither
pub data Printed : Type 0 where
  as_lines : Printed
  as_page : List ℕ → Printed
  as_fault : List ℕ → Printed

abbrev pub is_word : List ℕ → List ℕ → Bool
is_word text word = str_eq_ignore_ascii_case text word

abbrev pub no_file : Printed
no_file = as_fault (codes "PrintText(): missing filename")

abbrev pub page_of : List (List ℕ) → Printed
page_of (path ∷ []) = if is_word path (codes "file") then no_file else as_page path
page_of (word ∷ path ∷ []) = if is_word word (codes "file") then as_page path else no_file
page_of words = no_file

abbrev pub no_parameter : Printed
no_parameter = as_fault (codes "PrintText(): Parameter must be string or html")

abbrev pub printed_or : List ℕ → List (List ℕ) → Printed
printed_or word words = if is_word word (codes "html") then page_of words else no_parameter

abbrev pub is_empty : List (List ℕ) → Bool
is_empty [] = true
is_empty (word ∷ words) = false

abbrev pub printing_with : List ℕ → List (List ℕ) → Printed
printing_with word words = if is_empty words && is_word word (codes "string") then as_lines else printed_or word words

abbrev pub printing_of : List (List ℕ) → Printed
printing_of [] = no_parameter
printing_of (word ∷ words) = printing_with word words

-- a file is wanted for it
abbrev pub WantsPage : List ℕ → Step → Type 0
WantsPage path (Waits (Writing it) Page) = it.items ≡ path
WantsPage path step = ⊥

abbrev pub WantsLayout : List ℕ → Step → Type 0
WantsLayout path (Waits (Checking it) Layout) = it.items ≡ path
WantsLayout path step = ⊥

-- what Check says of a layout that was read, or couldn't be
abbrev pub Checks : Worked → List ℕ → Result (List ℕ) (List ℕ) → List ℕ → List ℕ → Outcome → Type 0
Checks w path read before after outcome =
    (turns : Option (List KeptRecord)) × OfStanding (λ state. records_kept state.kept) w.talk turns
    × Says before after outcome (said_of_check turns (sizes_of (device_in w).model) path read)

-- ---- connecting

-- the port of a host that names none is 23
abbrev pub named_host : List ℕ → Option ℕ → NamedHost
named_host text port = record { name = printed_text text; port = unwrap_or port 23 }

-- a connection to a host is wanted
abbrev pub CallsHost : List ℕ → Option ℕ → Step → Type 0
CallsHost text port step = step ≡ Waits (Calling (named_host text port)) Connection

abbrev pub Connects : Bool → List ℕ → Result Address AddressFault → Step → List ℕ → List ℕ → Type 0
Connects true text read step old new = EndsSaying (failed (printed_text (codes "Already connected"))) step old new
Connects false text (Ok address) step old new = CallsHost address.host address.port step × (new ≡ old)
Connects false text (Err fault) step old new = EndsSaying (failed (printed_text (address_fault_text text fault))) step old new

-- the first record is waited for
abbrev pub IsOpening : Step → Type 0
IsOpening step = step ≡ Waits Opening Bytes

abbrev pub unconnected_text : NamedHost → List ℕ → List ℕ
unconnected_text host why = host.name ++ (codes ", port " ++ (decimal host.port ++ (codes ": " ++ why)))

abbrev pub unconnected_said : NamedHost → List ℕ → Said
unconnected_said host why =
    record { texts = printed_text (codes "Connection failed:") ∷ printed_text (unconnected_text host why) ∷ []; outcome = outcomes.Failed }

-- ---- all of them

-- what waits for nothing; what it says beside that is nothing
abbrev pub Answers : Kind → List (List ℕ) → Worker → Outcome → Worker → Type 0
Answers (kinds.Reads reading) arguments old outcome new = Reads old.code_page reading arguments old.desk old.saying outcome new.desk new.saying
Answers kinds.Snaps arguments old outcome new = Snaps (snap_of arguments) old.code_page arguments old.desk old.kept old.saying outcome new.kept new.saying
Answers (kinds.Tells query) arguments old outcome new = TellsQuery old.desk query arguments old.saying new.saying outcome
Answers (kinds.Sets verb) arguments old outcome new =
    (new.settings ≡ (changed old.settings verb arguments).settings) × Says old.saying new.saying outcome (changed old.settings verb arguments).said
Answers kinds.Expects arguments old outcome new =
    Says old.saying new.saying outcome (failed (printed_text (codes "Expect() is valid only when connected in NVT mode")))
Answers kinds.Rings arguments old outcome new = Says old.saying new.saying outcome (done (printed_text (codes "(ding)") ∷ []))
Answers kind arguments old outcome new = Says old.saying new.saying outcome (done [])

abbrev pub EndsAnswering : Kind → List (List ℕ) → Worker → Step → Worker → Type 0
EndsAnswering kind arguments old step new = (outcome : Outcome) × (step ≡ Ended outcome) × Answers kind arguments old outcome new

-- what is asked of a file
abbrev pub Prints : Printed → Worker → Step → Worker → Type 0
Prints as_lines old step new =
    (outcome : Outcome) × (step ≡ Ended outcome) × Reads old.code_page readings.Ascii [] old.desk old.saying outcome new.desk new.saying
Prints (as_page path) old step new = WantsPage path step × (new.saying ≡ old.saying) × (new.desk ≡ old.desk)
Prints (as_fault words) old step new = EndsSaying (failed (printed_text words)) step old.saying new.saying × (new.desk ≡ old.desk)

abbrev pub AsksLayout : List (List ℕ) → Step → Type 0
AsksLayout [] step = step ≡ Ended outcomes.Done
AsksLayout (path ∷ words) step = WantsLayout path step

-- an action that presses no key of its name; what types and what waits is told by other clauses
abbrev pub Others : Kind → List (List ℕ) → Worker → Step → Worker → Type 0
Others kinds.Types arguments old step new = Unit {0}
Others kinds.TypesKey arguments old step new = Unit {0}
Others kinds.Waits arguments old step new = Unit {0}
Others kinds.Prints arguments old step new = Prints (printing_of arguments) old step new
Others kinds.Checks arguments old step new = AsksLayout arguments step × (new.saying ≡ old.saying)
Others kind arguments old step new = EndsAnswering kind arguments old step new

abbrev pub ActsSaying : Result Action Fault → Worker → Step → Worker → Type 0
ActsSaying (Ok (keys it)) old step new = Unit {0}
ActsSaying (Ok (connect text)) old step new = Connects (is_some old.desk.host) text (read_address text) step old.saying new.saying
ActsSaying (Ok disconnect) old step new = (step ≡ Ended outcomes.Done) × (new.saying ≡ old.saying) × (new.desk ≡ record old.desk { host = None })
ActsSaying (Ok quit) old step new = (step ≡ Quits) × (new.saying ≡ old.saying)
ActsSaying (Ok (other name arguments)) old step new = Others (kind_of name) arguments old step new
ActsSaying (Err fault) old step new = EndsSaying (failed (printed_text (fault_text fault))) step old.saying new.saying
