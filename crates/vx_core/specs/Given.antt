-- Replies whose bytes stand at the front of a room.
use Rattle.std.specs.Prelude.{ℕ, List, [], take}
use Rattle.vx_calls.specs.Reply.{Reply}
use Rattle.vx_calls.specs.Reply as reply
use Rattle.vx_core.specs.declared.ended.StoredReply.{StoredReply}
use Rattle.vx_core.specs.declared.ended.StoredReply.TheVariants as given

-- the reply, with its bytes from the front of the room
abbrev pub given_reply : StoredReply → List ℕ → Reply
given_reply given.Null room = reply.Null
given_reply (given.CreateLink error lid abort_port max) room = reply.CreateLink error lid abort_port max
given_reply (given.Write error size) room = reply.Write error size
given_reply (given.Read error reason len) room = reply.Read error reason (take len room)
given_reply (given.Stb error stb) room = reply.Stb error stb
given_reply (given.Docmd error len) room = reply.Docmd error (take len room)
given_reply (given.Error error) room = reply.Error error

-- how many bytes of the room it has
abbrev pub given_len : StoredReply → ℕ
given_len (given.Read error reason len) = len
given_len (given.Docmd error len) = len
given_len _ = 0

-- the bytes of a reply
abbrev pub reply_bytes : Reply → List ℕ
reply_bytes (reply.Read error reason bytes) = bytes
reply_bytes (reply.Docmd error bytes) = bytes
reply_bytes _ = []
