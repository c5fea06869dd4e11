-- To be believed.
-- What a port mapper of version 2 answers, by its table and the message alone (RFC 1833, section 3; RFC 5531, section 9).
use Rattle.std.specs.Prelude.{ℕ, Bool, not, ◌==◌, List, [], ◌∷◌, ◌++◌, length, take, Option, None, Some, Result, Ok, Err, if◌then◌else◌}
use Rattle.std.specs.List.{flat_map}
use Rattle.vx_xdr.specs.declared.fault.XdrErr.{XdrErr}
use Rattle.vx_xdr.specs.Spelling.{Word}
use Rattle.vx_xdr.specs.Reading.{◌>>=◌, reading}
use Rattle.vx_rpc.specs.Header.{CallBody}
use Rattle.vx_rpc.specs.CallMeaning.{CallMeaning, Called, OfOtherVersion, NoCall, call_meaning}
use Rattle.vx_rpc.specs.Wording.{words}
use Rattle.vx_portmap.specs.declared.table.Mapping.{Mapping}
use Rattle.vx_portmap.specs.declared.answers.MapAnswer.{MapAnswer}
use Rattle.vx_portmap.specs.declared.answers.MapAnswer.TheVariants.{Reply, Silent}
use Rattle.vx_portmap.specs.Table.{port_at}

-- ---- arguments, which end with their message

-- whether there are no arguments
abbrev pub is_void : List ℕ → Bool
is_void bytes = length bytes == 0

-- a mapping, as four words, and the bytes behind it
abbrev pub mapping_at : List ℕ → Result (Mapping × List ℕ) XdrErr
mapping_at bytes = do
  program ← reading Word bytes
  version ← reading Word program.1
  protocol ← reading Word version.1
  port ← reading Word protocol.1
  Ok (record { prog = program.0; vers = version.0; prot = protocol.0; port = port.0 }, port.1)

-- arguments that are one mapping
abbrev pub one_mapping : Result (Mapping × List ℕ) XdrErr → Option Mapping
one_mapping (Err e) = None
one_mapping (Ok (asked, rest)) = if is_void rest then Some asked else None

-- ---- accept_stat, and what it carries

-- SUCCESS with these results; GARBAGE_ARGS
abbrev pub success : List ℕ → List ℕ
success results = 0 ∷ results

abbrev pub garbage : List ℕ
garbage = 4 ∷ []

-- PMAPPROC_NULL has neither arguments nor results
abbrev pub null_results : List ℕ
null_results = []

-- PMAPPROC_GETPORT has the port of the mapping that is asked for, or 0; the port that is asked with it isn't looked at
abbrev pub getport_answer : List Mapping → Option Mapping → List ℕ
getport_answer ports None = garbage
getport_answer ports (Some asked) = success (port_at ports asked ∷ [])

-- an entry of the list: a one says that it follows
abbrev pub entry : Mapping → List ℕ
entry m = 1 ∷ m.prog ∷ m.vers ∷ m.prot ∷ m.port ∷ []

-- PMAPPROC_DUMP has the list of mappings in order, and a zero behind it
abbrev pub dump_results : List Mapping → List ℕ
dump_results ports = flat_map entry ports ++ 0 ∷ []

-- the answer of a procedure without arguments
abbrev pub void_answer : List ℕ → List ℕ → List ℕ
void_answer args results = if is_void args then success results else garbage

-- by the procedure: no mapping is set or unset, and no call is handed on, so each other is PROC_UNAVAIL
abbrev pub procedure_answer : List Mapping → ℕ → List ℕ → List ℕ
procedure_answer ports number args =
    if number == 0 then void_answer args null_results
    else if number == 3 then getport_answer ports (one_mapping (mapping_at args))
    else if number == 4 then void_answer args (dump_results ports)
    else 3 ∷ []

-- the first that holds: PROG_UNAVAIL for another program than 100000; PROG_MISMATCH, with the one version that is served as
-- lowest and highest; the procedure's answer
abbrev pub answer : List Mapping → CallBody → List ℕ
answer ports call =
    if not (call.program == 100000) then 1 ∷ []
    else if not (call.version == 2) then 2 ∷ 2 ∷ 2 ∷ []
    else procedure_answer ports call.procedure call.args

-- ---- the reply

-- the words of a reply: RPC_MISMATCH, with the one version of RPC that is served as lowest and highest, or an accepted call
-- without verifier; none where the message is no call
abbrev pub reply_numbers : List Mapping → CallMeaning → Option (List ℕ)
reply_numbers ports NoCall = None
reply_numbers ports (OfOtherVersion xid) = Some (xid ∷ 1 ∷ 1 ∷ 0 ∷ 2 ∷ 2 ∷ [])
reply_numbers ports (Called xid call) = Some (xid ∷ 1 ∷ 0 ∷ 0 ∷ 0 ∷ answer ports call)

-- numbers as words, where there are any
abbrev pub worded : Option (List ℕ) → Option (List ℕ)
worded None = None
worded (Some numbers) = Some (words numbers)

-- the reply to a message, or none
abbrev pub reply : List Mapping → List ℕ → Option (List ℕ)
reply ports message = worded (reply_numbers ports (call_meaning message))

-- ---- what an answer shows

-- the reply at the front of the slice, or none
abbrev pub shown : MapAnswer → List ℕ → Option (List ℕ)
shown (Reply n) out = Some (take n out)
shown Silent out = None

-- a fact on how long the reply is
abbrev pub IfReply : MapAnswer → (ℕ → Type 0) → Type 0
IfReply (Reply n) P = P n
IfReply Silent P = Unit {0}

-- a fact for a message without a reply
abbrev pub OnSilent : MapAnswer → Type 0 → Type 0
OnSilent (Reply n) P = Unit {0}
OnSilent Silent P = P
