-- What the fields of a bench stand for, and whom a signal is for.
use Rattle.std.specs.Prelude.{◌≡◌, ℕ, zero, suc, true, false, Bool, List, ◌∷◌, map}
use Rattle.vx_488.specs.declared.transfers.Transfer.{Transfer}
use Rattle.vx_488.specs.declared.transfers.Transfer.TheVariants.{Put, Got, Atn, Ifc, Own}
use Rattle.vx_488.specs.declared.wire.Wire.{Wire}
use Rattle.vx_488.specs.Heard.{Byte}
use Rattle.vx_sim.specs.declared.places.Stand.{Stand}
use Rattle.vx_sim.specs.declared.places.Stand.TheVariants as stand
use Rattle.vx_sim.specs.declared.places.Place.{Place}
use Rattle.vx_sim.specs.declared.signals.Way.{Way}
use Rattle.vx_sim.specs.declared.signals.Way.TheVariants as way
use Rattle.vx_sim.specs.declared.signals.Whom.{Whom}
use Rattle.vx_sim.specs.declared.signals.Whom.TheVariants as whom
use Rattle.vx_sim.specs.declared.signals.Question.{Question}
use Rattle.vx_sim.specs.declared.signals.Question.TheVariants as question
use Rattle.vx_sim.specs.Occupants.{Occupant, Table, Boxed, Placed}
use Rattle.vx_sim.specs.Bench.{listens, talks, stands_at, everyone, TalkerGives, refuses, asks}

abbrev pub occupant_of : {I : Type 0} → Stand I → Occupant
occupant_of (stand.Table t) = Table t
occupant_of (stand.Boxed s) = Boxed s

abbrev pub placed_of : {I : Type 0} → Place I → Placed
placed_of p = record { at = p.at; occupant = occupant_of p.stand }

abbrev pub bench_of : {I : Type 0} → List (Place I) → List Placed
bench_of ps = map placed_of ps

-- whether a place is one of those that are meant
abbrev pub is_meant : Wire → Whom → Placed → Bool
is_meant w whom.Listeners p = listens w p
is_meant w whom.Everyone p = everyone p
is_meant w (whom.At a) p = stands_at a p

-- what is asked of a place
abbrev pub is_so : Wire → Question → Placed → Bool
is_so w question.Listens p = listens w p
is_so w question.Refuses p = refuses w p
is_so w question.Talks p = talks w p
is_so w question.Asks p = asks p
is_so w (question.Stands a) p = stands_at a p

-- the place at this index changes so, and the others stay
abbrev pub AtPlace : ℕ → (Placed → Placed → Type 0) → List Placed → List Placed → Type 0
AtPlace zero Change (p ∷ ps) (q ∷ qs) = Change p q × (qs ≡ ps)
AtPlace (suc i) Change (p ∷ ps) (q ∷ qs) = (q ≡ p) × AtPlace i Change ps qs
AtPlace i Change _ _ = ⊥

-- the talker gave a byte
abbrev pub TalkerGave : Wire → Byte → Placed → Placed → Type 0
TalkerGave w byte p q = (talks w p ≡ true) × (q.at ≡ p.at) × TalkerGives w.polling byte p.occupant q.occupant

-- a transfer that reaches no instrument: ATN, IFC and a change of the own address
abbrev pub reaches_nobody : Transfer → Bool
reaches_nobody (Atn on) = true
reaches_nobody Ifc = true
reaches_nobody (Own a) = true
reaches_nobody _ = false

-- a transfer that carries a data byte, which changes nothing of the wire
abbrev pub is_byte : Transfer → Bool
is_byte (Put b end) = true
is_byte (Got b end) = true
is_byte _ = false

-- a data byte that goes this way, as a transfer
abbrev pub moved : Way → ℕ → Bool → Transfer
moved way.Put = Put
moved way.Got = Got
