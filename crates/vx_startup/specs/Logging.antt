-- The lines of a server's log.
use Rattle.std.specs.Prelude.{◌≡◌, ℕ, ◌/◌, ◌%◌, ◌^◌, max, List, ◌++◌, Some, codes, decimal}
use Rattle.vx_io_traits.specs.declared.clocks.Clock.{Ghosts as ClockTold}
use Rattle.vx_policy.specs.Grammar.{proc_text}
use Rattle.vx_startup.specs.declared.logging.Channel.{Channel}
use Rattle.vx_startup.specs.declared.logging.Channel.TheVariants as channel
use Rattle.vx_startup.specs.declared.logging.Reason.{Reason}
use Rattle.vx_startup.specs.declared.logging.Reason.TheVariants as why
use Rattle.vx_startup.specs.declared.logging.News.{News}
use Rattle.vx_startup.specs.declared.logging.News.TheVariants as news
use Rattle.vx_startup.specs.declared.logging.Place.{Place}

-- a channel, in a word
abbrev pub channel_word : Channel → List ℕ
channel_word channel.Core = codes "core"
channel_word channel.Abort = codes "abort"

-- why a connection ended, in words
abbrev pub reason : Reason → List ℕ
reason why.Closed = codes "closed by its peer"
reason why.CutShort = codes "closed by its peer within a record"
reason why.Junk = codes "a record is no call"
reason why.TooLong = codes "a record is too long"
reason why.ReadFault = codes "receiving failed"
reason why.WriteFault = codes "sending failed"

-- what is told of a connection
abbrev pub news_text : News → List ℕ
news_text news.Came = codes " came"
news_text (news.Ended r calls) = codes " ended: " ++ reason r ++ codes ", " ++ decimal calls ++ codes " calls"
news_text news.Full = codes " refused: 64 are connected"
news_text news.NoMemory = codes " refused: no memory"
news_text (news.Denied rule p) = codes " denied: " ++ proc_text (Some p) ++ codes ", rule " ++ decimal rule

-- an IPv4 address: its four parts, the high byte first
abbrev pub address_text : ℕ → List ℕ
address_text host =
    decimal (host / 2 ^ 24)
    ++ codes "."
    ++ decimal (host / 2 ^ 16 % 256)
    ++ codes "."
    ++ decimal (host / 2 ^ 8 % 256)
    ++ codes "."
    ++ decimal (host % 256)

-- where a peer is
abbrev pub place_text : Place → List ℕ
place_text p = address_text p.host ++ codes ":" ++ decimal p.port

-- the line of the connection of this number on a channel, whose peer is here, told at this moment, in milliseconds
abbrev pub log_line : ℕ → Channel → ℕ → Place → News → List ℕ
log_line moment c number p n =
    decimal moment
    ++ codes " "
    ++ channel_word c
    ++ codes " "
    ++ decimal number
    ++ codes " "
    ++ place_text p
    ++ news_text n
    ++ codes "\n"

-- one call of a clock told this moment
abbrev pub IsTold : {C : Type 0} → ClockTold C → C → ℕ → C → Type 0
IsTold shown before moment after = shown.tells before moment after × (shown.told after ≡ max (shown.told before) moment)
