-- To be believed.
-- The results of each procedure (VXI-11, the structures named below): their fields, their bytes and what they say.
use Rattle.std.specs.Prelude.{◌≡◌, ◌<◌, ◌^◌, ℕ, List, [], ◌∷◌, ◌++◌, length, Option, option_map}
use Rattle.vx_xdr.specs.Spelling.{word, opaque}
use Rattle.vx_calls.specs.declared.calls.Proc.{Proc}
use Rattle.vx_calls.specs.declared.calls.Proc.TheVariants as proc
use Rattle.vx_calls.specs.ErrorCode.{error_number}
use Rattle.vx_calls.specs.Reply.{Reply}
use Rattle.vx_calls.specs.Reply as reply
use Rattle.vx_codec.specs.declared.results.Results.{Results}
use Rattle.vx_codec.specs.declared.results.Results.TheVariants as seen
use Rattle.vx_codec.specs.Row.{FieldKind, LowByte, Contents, SpellsRow, RowFits, row_at, whole}
use Rattle.vx_codec.specs.Asked.{number, data_bytes}

-- the results of a call as plain data, the error as its number
pub data Outcome : Type 0 where
  Null : Outcome
  CreateLink : (error lid abort_port max : ℕ) → Outcome
  Write : (error size : ℕ) → Outcome
  Read : (error reason : ℕ) (bytes : List ℕ) → Outcome
  Stb : (error stb : ℕ) → Outcome
  Docmd : (error : ℕ) (bytes : List ℕ) → Outcome
  Error : (error : ℕ) → Outcome

-- what a `Results` shows
abbrev pub results_shown : Results → Outcome
results_shown seen.Null = Null
results_shown (seen.CreateLink error lid abort_port max) = CreateLink error lid abort_port max
results_shown (seen.Write error size) = Write error size
results_shown (seen.Read error reason bytes) = Read error reason bytes.now
results_shown (seen.Stb error stb) = Stb error stb
results_shown (seen.Docmd error bytes) = Docmd error bytes.now
results_shown (seen.Error error) = Error error

-- the structures of results: none, Create_LinkResp, Device_WriteResp, Device_ReadResp, Device_ReadStbResp,
-- Device_DocmdResp, Device_Error
pub data Form : Type 0 where
  Nothing : Form
  LinkMade : Form
  Written : Form
  ReadData : Form
  Status : Form
  CommandData : Form
  ErrorAlone : Form

-- which structure each procedure answers
abbrev pub form_of : Proc → Form
form_of proc.Null = Nothing
form_of proc.CreateLink = LinkMade
form_of proc.Write = Written
form_of proc.Read = ReadData
form_of proc.ReadStb = Status
form_of proc.Docmd = CommandData
form_of _ = ErrorAlone

-- the fields of each structure, in order
abbrev pub results_of : Form → List FieldKind
results_of Nothing = []
results_of LinkMade = number ∷ number ∷ number ∷ number ∷ []
results_of Written = number ∷ number ∷ []
results_of ReadData = number ∷ number ∷ data_bytes ∷ []
results_of Status = number ∷ LowByte ∷ []
results_of CommandData = number ∷ data_bytes ∷ []
results_of ErrorAlone = number ∷ []

-- the results with these fields
abbrev pub outcome_of : (form : Form) → Contents (results_of form) → Outcome
outcome_of Nothing end = Null
outcome_of LinkMade (error, (lid, (abort_port, (max, end)))) = CreateLink error lid abort_port max
outcome_of Written (error, (size, end)) = Write error size
outcome_of ReadData (error, (reason, (bytes, end))) = Read error reason bytes
outcome_of Status (error, (stb, end)) = Stb error stb
outcome_of CommandData (error, (bytes, end)) = Docmd error bytes
outcome_of ErrorAlone (error, end) = Error error

-- the bytes spell these results of the structure
abbrev pub Answers : Form → Outcome → List ℕ → Type 0
Answers form outcome bytes = (values : Contents (results_of form)) × (outcome ≡ outcome_of form values) × SpellsRow (results_of form) values bytes

-- the results at the front, and the bytes behind them
abbrev pub outcome_at : Form → List ℕ → Option (Outcome × List ℕ)
outcome_at form bytes = option_map (λ found. (outcome_of form found.0, found.1)) (row_at (results_of form) bytes)

-- the results of the procedure that the bytes spell, or none
abbrev pub answered : Proc → List ℕ → Option Outcome
answered procedure bytes = whole (outcome_at (form_of procedure) bytes)

-- the structure that a reply fills
abbrev pub reply_form : Reply → Form
reply_form reply.Null = Nothing
reply_form (reply.CreateLink error lid abort_port max) = LinkMade
reply_form (reply.Write error size) = Written
reply_form (reply.Read error reason bytes) = ReadData
reply_form (reply.Stb error stb) = Status
reply_form (reply.Docmd error bytes) = CommandData
reply_form (reply.Error error) = ErrorAlone

-- the fields of a reply, in order
abbrev pub reply_values : (r : Reply) → Contents (results_of (reply_form r))
reply_values reply.Null = tt
reply_values (reply.CreateLink error lid abort_port max) = (error_number error, (lid, (abort_port, (max, tt))))
reply_values (reply.Write error size) = (error_number error, (size, tt))
reply_values (reply.Read error reason bytes) = (error_number error, (reason, (bytes, tt)))
reply_values (reply.Stb error stb) = (error_number error, (stb, tt))
reply_values (reply.Docmd error bytes) = (error_number error, (bytes, tt))
reply_values (reply.Error error) = (error_number error, tt)

-- a reply as its reader sees it
abbrev pub reply_outcome : Reply → Outcome
reply_outcome r = outcome_of (reply_form r) (reply_values r)

-- each field has a spelling
abbrev pub ReplyFits : Reply → Type 0
ReplyFits r = RowFits (results_of (reply_form r)) (reply_values r)

-- the bytes of a reply's results
abbrev pub results : Reply → List ℕ
results reply.Null = []
results (reply.CreateLink error lid abort_port max) = word (error_number error) ++ word lid ++ word abort_port ++ word max
results (reply.Write error size) = word (error_number error) ++ word size
results (reply.Read error reason bytes) = word (error_number error) ++ word reason ++ opaque bytes
results (reply.Stb error stb) = word (error_number error) ++ word stb
results (reply.Docmd error bytes) = word (error_number error) ++ opaque bytes
results (reply.Error error) = word (error_number error)

-- what can be written: a length word can count the bytes
abbrev pub IsPuttableReply : Reply → Type 0
IsPuttableReply (reply.Read error reason bytes) = length bytes < 2 ^ 32
IsPuttableReply (reply.Docmd error bytes) = length bytes < 2 ^ 32
IsPuttableReply _ = Unit {0}
