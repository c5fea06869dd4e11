-- To be believed.
-- What instruments of every kind do alike.
use Rattle.std.specs.Prelude.{ℕ, true, false, Bool, List, [], ◌∷◌, ◌++◌, drop}
use Rattle.vx_inst.specs.View.{View}
use Rattle.vx_inst.specs.Reply.{reply_appended}

-- an instrument as it is made
abbrev pub fresh : View
fresh = record { inbox = []; out = []; stb = 0; rqs = false; ready = true }

-- the message that a byte ends: the inbox with that byte
abbrev pub message : View → ℕ → List ℕ
message v b = v.inbox ++ b ∷ []

-- a byte joins the inbox
abbrev pub with_byte : View → ℕ → View
with_byte v b = record v { inbox = message v b }

-- the message is over
abbrev pub without_message : View → View
without_message v = record v { inbox = [] }

-- a reply is appended
abbrev pub replied : View → List ℕ → View
replied v reply = record v { out = reply_appended v.out reply }

-- the inbox becomes the reply
abbrev pub echoed : View → View
echoed v = record v { inbox = []; out = reply_appended v.out v.inbox }

-- A byte is taken by an instrument that gives back its message: at END the message is the reply.
abbrev pub echo_after_take : View → ℕ → Bool → View
echo_after_take v b false = with_byte v b
echo_after_take v b true = replied (without_message v) (message v b)

-- The front of what there is to give is given.
abbrev pub after_give : View → View
after_give v = record v { out = drop 1 v.out }

-- A serial poll ends the asking for service.
abbrev pub after_poll : View → View
after_poll v = record v { rqs = false }

-- A clear empties both lists.
abbrev pub after_clear : View → View
after_clear v = record v { inbox = []; out = [] }
