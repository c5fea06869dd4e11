-- What a message that was read shows.
use Rattle.std.specs.Prelude.{⊤, IsTrue}
use Rattle.vx_calls.specs.Call.{call_shown}
use Rattle.vx_rpc.specs.Sorting.{is_sent}
use Rattle.vx_rpc.specs.Wording.{success_message, refusal_message}
use Rattle.vx_exchange.specs.Meaning.{Meaning}
use Rattle.vx_exchange.specs.Meaning as meant
use Rattle.vx_history.specs.declared.message.Message.{Message}
use Rattle.vx_history.specs.declared.message.Message.TheVariants as seen

-- what a `Message` means
abbrev pub message_shown : Message → Meaning
message_shown seen.Junk = meant.Junk
message_shown (seen.Refused xid refusal) = meant.Answered (refusal_message xid refusal)
message_shown (seen.Null xid) = meant.Answered (success_message xid)
message_shown (seen.Asks xid asked) = meant.Asks xid (call_shown asked)
message_shown (seen.Aborts xid lid) = meant.Aborts xid lid

-- a refusal is one that may be sent
abbrev pub IsTraceSent : Message → Type 0
IsTraceSent (seen.Refused xid refusal) = IsTrue (is_sent refusal)
IsTraceSent _ = ⊤
