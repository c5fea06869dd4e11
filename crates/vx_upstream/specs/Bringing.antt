-- How the box's bus is brought to a wire: over the link that there is, or over one that is made anew.
use Rattle.std.specs.Prelude.{◌≡◌, ◌⊎◌, ℕ, ◌+◌, ◌-◌, ◌^◌, Bool, true, false, min, List, [], ◌∷◌, ◌++◌, Result, Ok, Err}
use Rattle.vx_io_traits.specs.declared.dials.DialOut.TheVariants.{Up, Failed}
use Rattle.vx_488.specs.declared.wire.Wire.{Wire}
use Rattle.vx_client.specs.State.{ClientState, new_client, client_with_link}
use Rattle.vx_client.specs.Calls.{create, command}
use Rattle.vx_client.specs.Meaning.{made_of, len_of}
use Rattle.vx_client.specs.declared.answers.CallOpts.{CallOpts}
use Rattle.vx_client.specs.declared.answers.LinkMade.{LinkMade}
use Rattle.vx_client.specs.declared.answers.ClientErr.{ClientErr}
use Rattle.vx_client.specs.declared.answers.ClientErr.TheVariants as err
use Rattle.vx_upstream.specs.UpstreamState.{UpstreamState, Terms, opts_at}
use Rattle.vx_upstream.specs.Sending.{LinkWords, OneCall, Reaches, bit}
use Rattle.vx_upstream.specs.Restoring.{restoring}
use Rattle.vx_upstream.specs.declared.orders.Order.{Order}
use Rattle.vx_upstream.specs.declared.orders.Order.TheVariants.{Clear, Address, Remote, Command}
use Rattle.vx_upstream.specs.declared.upstream.Standing.{Standing}
use Rattle.vx_upstream.specs.declared.upstream.Standing.TheVariants.{Here, Lost, Retry}

-- how the box is asked: by this client, over its link there
pub record Access (L : Type 0) : Type 0 where
  pub client : ClientState L
  pub made : LinkMade

abbrev pub access_of : {L : Type 0} → UpstreamState L → Access L
access_of s = record { client = s.client; made = s.made }

-- the command and the data of an order (VXI-11.2: IFC control, bus address, REN control, send command)
abbrev pub order_command : Order → ℕ
order_command Clear = 0x020010
order_command (Address a) = 0x02000A
order_command (Remote on) = 0x020003
order_command (Command b) = 0x020000

abbrev pub order_data : Order → List ℕ
order_data Clear = []
order_data (Address a) = 0 ∷ 0 ∷ 0 ∷ a ∷ []
order_data (Remote on) = 0 ∷ bit on ∷ []
order_data (Command b) = b ∷ []

-- the device_docmd of an order, and what it answered
abbrev pub Obeys : {L : Type 0} → LinkWords L → ℕ → CallOpts → Order → ClientState L → ClientState L → Result ℕ ClientErr → Type 0
Obeys w lid opts order old new r = OneCall w old new (command lid opts (order_command order) (order_data order)) 4 len_of r

-- these orders, one after the other, each answered with error 0
abbrev pub AllObeyed : {L : Type 0} → LinkWords L → ℕ → CallOpts → ClientState L → List Order → ClientState L → Type 0
AllObeyed w lid opts old [] new = new ≡ old
AllObeyed {L = L} w lid opts old (order ∷ orders) new =
    (mid : ClientState L) × (len : ℕ) × Obeys w lid opts order old mid (Ok len) × AllObeyed w lid opts mid orders new

-- the first of them that wasn't was answered so, and no further one was sent
pub record BreaksOff {L : Type 0} (w : LinkWords L) (lid : ℕ) (opts : CallOpts) (orders : List Order) (e : ClientErr) (old new : ClientState L) : Type 0 where
  pub done : List Order
  pub last : Order
  pub rest : List Order
  pub whole : orders ≡ done ++ last ∷ rest
  pub mid : ClientState L
  pub obeyed : AllObeyed w lid opts old done mid
  pub answered : Obeys w lid opts last mid new (Err e)

abbrev pub Obeyed : {L : Type 0} → LinkWords L → ℕ → CallOpts → List Order → Result Unit ClientErr → ClientState L → ClientState L → Type 0
Obeyed w lid opts orders (Ok done) old new = AllObeyed w lid opts old orders new
Obeyed w lid opts orders (Err e) old new = BreaksOff w lid opts orders e old new

-- a link was made anew: the box was reached, and a client that begins anew made it, with a lock, as its first call (VXI-11,
-- create_link)
pub record LinksAnew {L : Type 0} (w : LinkWords L) (terms : Terms) (old new : ClientState L) (r : Result LinkMade ClientErr) : Type 0 where
  pub link : L
  pub reached : Reaches w terms.host terms.port Up old.link link
  pub called : OneCall w (new_client link) new (create true 0 terms.name) 0 made_of r

-- the box wasn't reached
pub record Misses {L : Type 0} (w : LinkWords L) (terms : Terms) (old new : ClientState L) : Type 0 where
  pub missed : Reaches w terms.host terms.port Failed old.link new.link
  pub rest : new ≡ client_with_link old new.link

-- no link was made
abbrev pub LinksNone : {L : Type 0} → LinkWords L → Terms → ClientState L → ClientState L → Type 0
LinksNone w terms old new = Misses w terms old new ⊎ ((e : ClientErr) × LinksAnew w terms old new (Err e))

-- over a link that is made anew: each of these orders was answered with error 0
abbrev pub BringsAnew : {L : Type 0} → LinkWords L → Terms → List Order → Bool → Access L → Access L → Type 0
BringsAnew {L = L} w terms orders true old new =
    (mid : ClientState L) × LinksAnew w terms old.client mid (Ok new.made) × AllObeyed w new.made.lid (opts_at terms.patience 0) mid orders new.client
-- or no link was made, or the first of them that wasn't ended it
BringsAnew {L = L} w terms orders false old new =
    (LinksNone w terms old.client new.client × (new.made ≡ old.made))
    ⊎ ((mid : ClientState L) × LinksAnew w terms old.client mid (Ok new.made)
    × ((e : ClientErr) × BreaksOff w new.made.lid (opts_at terms.patience 0) orders e mid new.client))

-- nothing was sent, since the client was spent
abbrev pub is_spent : ClientErr → Bool
is_spent err.Spent = true
is_spent _ = false

-- over the link that there is: each of these orders was answered with error 0, or the first of them that wasn't ended it; where the
-- client was spent, over one that is made anew
abbrev pub BringsOver : {L : Type 0} → LinkWords L → Terms → List Order → Bool → Access L → Access L → Type 0
BringsOver {L = L} w terms orders true old new =
    (AllObeyed w old.made.lid (opts_at terms.patience 0) old.client orders new.client × (new.made ≡ old.made))
    ⊎ ((e : ClientErr) × (is_spent e ≡ true) × (mid : ClientState L) × BreaksOff w old.made.lid (opts_at terms.patience 0) orders e old.client mid
    × BringsAnew w terms orders true (record { client = mid; made = old.made }) new)
BringsOver {L = L} w terms orders false old new =
    ((e : ClientErr) × (is_spent e ≡ false) × BreaksOff w old.made.lid (opts_at terms.patience 0) orders e old.client new.client × (new.made ≡ old.made))
    ⊎ ((e : ClientErr) × (is_spent e ≡ true) × (mid : ClientState L) × BreaksOff w old.made.lid (opts_at terms.patience 0) orders e old.client mid
    × BringsAnew w terms orders false (record { client = mid; made = old.made }) new)

-- the first try behind a fault uses the link that there is, and any further one makes a link
abbrev pub Brings : {L : Type 0} → LinkWords L → Terms → Standing → List Order → Bool → Access L → Access L → Type 0
Brings w terms Lost orders done old new = BringsOver w terms orders done old new
Brings w terms Here orders done old new = BringsAnew w terms orders done old new
Brings w terms (Retry from) orders done old new = BringsAnew w terms orders done old new

-- where a try leaves the bus: here, or away for a second at least, where moments are milliseconds
abbrev pub tried : Bool → ℕ → Standing
tried true now = Here
tried false now = Retry (min (now + 1000) (2 ^ 64 - 1))

-- one try to bring the box's bus to a wire, and whether it was
abbrev pub Tries : {L : Type 0} → LinkWords L → Wire → Bool → UpstreamState L → UpstreamState L → Type 0
Tries w wire done old new =
    Brings w old.terms old.kept.standing (restoring wire) done (access_of old) (access_of new)
    × (new ≡ record old { client = new.client; made = new.made; kept = record old.kept { standing = tried done old.moment } })
