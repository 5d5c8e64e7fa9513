-- A terminal that lines of a script work: what it takes, and how each line is answered.
use Rattle.std.specs.Prelude.{◌≡◌, ℕ, Bool, true, false, is_some, List, [], ◌∷◌, ◌++◌, Option, Some, None}
use Rattle.script_screens.specs.declared.code_page.CodePage.{CodePage}
use Rattle.script_screens.specs.declared.lines.Outcome.{Outcome}
use Rattle.cli_scripts.specs.declared.came.Came.{Came}
use Rattle.cli_scripts.specs.declared.came.Came.TheVariants as came
use Rattle.cli_scripts.specs.declared.came.Need.TheVariants.{Arrived}
use Rattle.cli_scripts.specs.declared.came.Wants.{Wants}
use Rattle.cli_scripts.specs.declared.came.Wants.TheVariants.{Line, Need, Nothing}
use Rattle.cli_scripts.specs.declared.doing.Doing.{Doing}
use Rattle.cli_scripts.specs.declared.doing.Doing.TheVariants.{Calling, Checking, Writing}
use Rattle.cli_scripts.specs.declared.doing.Step.{Step}
use Rattle.cli_scripts.specs.declared.doing.Step.TheVariants.{Ended, Quits, Waits}
use Rattle.cli_scripts.specs.declared.kept.KeptScreen.{KeptScreen}
use Rattle.cli_scripts.specs.declared.machine.Job.{Job}
use Rattle.cli_scripts.specs.declared.settings.Settings.{Settings}
use Rattle.cli_scripts.specs.Answers.{Telling, nothing_told}
use Rattle.cli_scripts.specs.Desks.{NamedHost, Worked, Keeps}
use Rattle.cli_scripts.specs.Says.{TellsNext}
use Rattle.cli_scripts.specs.Settings.{first_settings}

-- The terminal, the code page, what was set and what was kept, what is said so far of the line that is under way, the answers, what is under way,
-- and whether something is.
pub record Scripted : Type 0 where
  pub desk : Worked
  pub code_page : CodePage
  pub settings : Settings
  pub kept : Option KeptScreen
  pub saying : List ℕ
  pub telling : Telling
  pub job : Option Job
  pub is_busy : Bool

-- at this terminal nothing was done yet
abbrev pub scripted : Worked → CodePage → Scripted
scripted desk code_page = record {
  desk = desk;
  code_page = code_page;
  settings = first_settings;
  kept = None;
  saying = [];
  telling = nothing_told;
  job = None;
  is_busy = false;
}

-- ---- what a line that is under way needs by name

abbrev pub host_of : Doing → Option NamedHost
host_of (Calling host) = Some host
host_of doing = None

abbrev pub file_of : Doing → Option (List ℕ)
file_of (Writing path) = Some path.items
file_of (Checking path) = Some path.items
file_of doing = None

-- the host that is called
abbrev pub host_wanted : Option Job → Option NamedHost
host_wanted None = None
host_wanted (Some job) = host_of job.doing

-- the file that is to be written or read
abbrev pub file_wanted : Option Job → Option (List ℕ)
file_wanted None = None
file_wanted (Some job) = file_of job.doing

abbrev pub host_named : List ℕ → ℕ → NamedHost
host_named name port = record { name = name; port = port }

-- ---- where a line stops

-- what is under way is kept, with what is left of the line
abbrev pub IsKept : Doing → List ℕ → Option Job → Type 0
IsKept doing rest None = ⊥
IsKept doing rest (Some job) = (job.doing ≡ doing) × (job.rest.items ≡ rest)

-- An action that waits is kept until what it needs came; after one that failed the next line is taken, and after Quit none.
abbrev pub StopsAt : Step → List ℕ → Wants → Option Job → Type 0
StopsAt (Waits doing need) rest wants job = (wants ≡ Need need) × IsKept doing rest job
StopsAt (Ended outcome) rest wants job = wants ≡ Line
StopsAt Quits rest wants job = wants ≡ Nothing

-- ---- what is heard, and how a line is answered

-- bytes of the host are heard, and nothing else is
abbrev pub HearsCame : Came → Worked → Worked → Type 0
HearsCame (came.Bytes bytes) old new =
    (new.heard ≡ old.heard ++ bytes.now) × (new.gone ≡ old.gone) × (new.judged ≡ old.judged) × (new.collects ≡ old.collects)
HearsCame _ old new = Keeps old new

-- where no line is under way nothing is heard
abbrev pub HearsNext : Bool → Came → Worked → Worked → Type 0
HearsNext true it old new = HearsCame it old new
HearsNext false it old new = Keeps old new

-- whether a line goes on with it, or begins
abbrev pub goes_on : Bool → Came → Bool
goes_on true it = true
goes_on false (came.Line line) = true
goes_on false came.LongLine = true
goes_on false _ = false

-- A line that begins or goes on is answered once, where nothing more is needed for it; anything else than a line leaves all as it is.
abbrev pub AnswersSo : Bool → Scripted → Wants → Scripted → Type 0
AnswersSo true old Line new = ((outcome : Outcome) × (new.telling.outcomes ≡ old.telling.outcomes ++ outcome ∷ [])) × (new.is_busy ≡ false)
AnswersSo true old Nothing new = ((outcome : Outcome) × (new.telling.outcomes ≡ old.telling.outcomes ++ outcome ∷ [])) × (new.is_busy ≡ false)
AnswersSo true old (Need need) new = (new.telling.outcomes ≡ old.telling.outcomes) × (new.is_busy ≡ true)
AnswersSo false old wants new = (wants ≡ Line) × (new ≡ old)

-- what has arrived of the host is wanted, and nothing was done yet
abbrev pub IsDrained : Worked → Wants → Worked → Type 0
IsDrained old wants new = (wants ≡ Need Arrived) × (new ≡ old)

abbrev pub DrainsFirst : Came → Worked → Wants → Worked → Type 0
DrainsFirst (came.Line line) old wants new = is_some old.host ≡ true → IsDrained old wants new
DrainsFirst _ old wants new = Unit {0}

-- ---- what an answer tells

-- of this terminal, with what was said; then nothing is said yet of the next line
abbrev pub TellsOf : Worked → List ℕ → Outcome → Scripted → Scripted → Type 0
TellsOf w said outcome old new = TellsNext w said outcome old.telling new.telling × (new.saying ≡ [])

-- The answer of a line that is over tells of the terminal as it then stands; after Quit the line to the host is ended.
abbrev pub TellsSo : Bool → Scripted → Wants → Scripted → Type 0
TellsSo true old Line new = (said : List ℕ) × (outcome : Outcome) × TellsOf new.desk said outcome old new
TellsSo true old Nothing new =
    (w : Worked) × (said : List ℕ) × (outcome : Outcome) × TellsOf w said outcome old new × (new.desk ≡ record w { host = None })
TellsSo true old (Need need) new = new.telling ≡ old.telling
TellsSo false old wants new = new ≡ old
