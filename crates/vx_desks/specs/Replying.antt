-- To be believed.
-- The records of replies to calls on several buses.
use Rattle.std.specs.Prelude.{ℕ, ◌&&◌, nat_le, if◌then◌else◌, List, ◌++◌, length, take, drop}
use Rattle.byteorder.specs.Endian.{big_number}
use Rattle.vx_xdr.specs.Spelling.{word}
use Rattle.vx_calls.specs.declared.limits.TheConstants.{LINK_LAST}
use Rattle.vx_calls.specs.Reply.{Reply}
use Rattle.vx_record.specs.Fragments.{record_of}
use Rattle.vx_rpc.specs.Wording.{success_message}
use Rattle.vx_codec.specs.Answered.{results}
use Rattle.vx_desks.specs.Numbers.{global_number}

-- the record of a reply to a call that was executed (RFC 5531, sections 9 and 11)
abbrev pub success_record : ℕ → Reply → List ℕ
success_record xid reply = record_of (success_message xid ++ results reply)

-- the number that a client is told of a link of a bus; what is no link's number is told as it is
abbrev pub told_number : ℕ → ℕ → ℕ
told_number bus lid = if nat_le 1 lid && nat_le lid LINK_LAST then global_number bus lid else lid

-- The word of the link's number, behind the mark, the header and the error of a create_link's reply (VXI-11, Create_LinkResp), is the
-- number that the client is told.
abbrev pub renumbered : ℕ → List ℕ → List ℕ
renumbered bus bytes =
    if nat_le 36 (length bytes)
    then take 32 bytes ++ (word (told_number bus (big_number 4 (take 4 (drop 32 bytes)))) ++ drop 36 bytes)
    else bytes
