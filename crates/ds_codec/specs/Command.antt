-- Commands and their codes.
use Rattle.std.specs.Prelude.{ℕ, Bool, ◌==◌, List, [], ◌∷◌, Option, Some, None}
use Rattle.std.specs.List.{list_any, find}
use Rattle.ds_codec.specs.declared.command.Command.{Command}
use Rattle.ds_codec.specs.declared.command.Command.TheVariants as command
use Rattle.ds_codec.specs.declared.command.CommandCode.{CommandCode}
use Rattle.ds_codec.specs.declared.command.CommandCode.TheVariants.{Write, EraseWrite, EraseWriteAlternate, EraseAllUnprotected, ReadBuffer, ReadModified, ReadModifiedAll, WriteStructuredField, NoOperation}

-- the codes of a command: the channel's form, then SNA's, which is written
abbrev pub codes_of : CommandCode → List ℕ
codes_of Write = 0x01 ∷ 0xF1 ∷ []
codes_of EraseWrite = 0x05 ∷ 0xF5 ∷ []
codes_of EraseWriteAlternate = 0x0D ∷ 0x7E ∷ []
codes_of EraseAllUnprotected = 0x0F ∷ 0x6F ∷ []
codes_of ReadBuffer = 0x02 ∷ 0xF2 ∷ []
codes_of ReadModified = 0x06 ∷ 0xF6 ∷ []
codes_of ReadModifiedAll = 0x0E ∷ 0x6E ∷ []
codes_of WriteStructuredField = 0x11 ∷ 0xF3 ∷ []
codes_of NoOperation = 0x03 ∷ []

abbrev pub all_command_codes : List CommandCode
all_command_codes =
    Write ∷ EraseWrite ∷ EraseWriteAlternate ∷ EraseAllUnprotected ∷ ReadBuffer
    ∷ ReadModified ∷ ReadModifiedAll ∷ WriteStructuredField ∷ NoOperation ∷ []

-- whether a byte is a code of the command
abbrev pub is_code_of : ℕ → CommandCode → Bool
is_code_of byte code = list_any (λ c. c == byte) (codes_of code)

-- the command of a code
unfoldable pub command_code_at : ℕ → Option CommandCode
command_code_at byte = find (is_code_of byte) all_command_codes

-- the code that is written: SNA's form
abbrev pub written_code : CommandCode → ℕ
written_code Write = 0xF1
written_code EraseWrite = 0xF5
written_code EraseWriteAlternate = 0x7E
written_code EraseAllUnprotected = 0x6F
written_code ReadBuffer = 0xF2
written_code ReadModified = 0xF6
written_code ReadModifiedAll = 0x6E
written_code WriteStructuredField = 0xF3
written_code NoOperation = 0x03

-- which command it is
abbrev pub command_code_of : Command → CommandCode
command_code_of (command.Write wcc) = Write
command_code_of (command.EraseWrite wcc) = EraseWrite
command_code_of (command.EraseWriteAlternate wcc) = EraseWriteAlternate
command_code_of command.EraseAllUnprotected = EraseAllUnprotected
command_code_of command.ReadBuffer = ReadBuffer
command_code_of command.ReadModified = ReadModified
command_code_of command.ReadModifiedAll = ReadModifiedAll
command_code_of command.NoOperation = NoOperation

-- the write control character of the three writes
abbrev pub wcc_of : Command → Option ℕ
wcc_of (command.Write wcc) = Some wcc
wcc_of (command.EraseWrite wcc) = Some wcc
wcc_of (command.EraseWriteAlternate wcc) = Some wcc
wcc_of command.EraseAllUnprotected = None
wcc_of command.ReadBuffer = None
wcc_of command.ReadModified = None
wcc_of command.ReadModifiedAll = None
wcc_of command.NoOperation = None
