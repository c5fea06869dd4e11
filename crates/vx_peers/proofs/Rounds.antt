-- How the loop over the peers of a door goes on, by a server that may stop it.
use Rattle.std.proofs.Common.{◌≡◌, ◌≤◌, ◌+◌, inl, inr, ℕ, Bool, true, false, cond, List, [], ◌∷◌, ◌++◌, length, refl, sym, ap, ◌∙◌, arith, le_trans, length-append}
use Rattle.std.proofs.lemmas.List.Sums.{sum_by-append}
use Rattle.vx_io_traits.specs.Faults.{Rose, one_more}
use Rattle.vx_io_traits.proofs.Laws.{rose_earlier}
use Rattle.vx_door.specs.Shown.{DoorShown, MeetsPeer}
use Rattle.vx_door.specs.declared.doors.Met.TheVariants as met
use Rattle.vx_peers.specs.Serving.{Meeting, Meetings, ServesOne, ServesNone, is_cut, cuts, RoseEither, RoseTogether}
use Rattle.vx_peers.specs.Running.{KeepsOwn, RoseBy, RoseOver, StopsSo}
use Rattle.vx_peers.specs.declared.stopping.DoorEnd.{DoorEnd}
use Rattle.vx_peers.specs.declared.stopping.DoorEnd.TheVariants.{Served, Ended, Failed}
use Rattle.vx_peers.specs.Outcome.{PeerShows, PeerServes}

-- a count that has one more rose
pub one_rose : (before now : ℕ) → now ≡ one_more before → Rose before now
one_rose before now e = omega arith

-- the loop's own counts so far: each peer was counted, none was told not to come, and faults don't fall
pub record Counted (number : ℕ) (old new : DoorShown) : Type 0 where
  pub met : RoseBy number old.met new.met
  pub ended : new.ended ≡ old.ended
  pub faults : old.faults ≤ new.faults

-- one more peer was counted
one-counted : (number : ℕ) (a b c d : DoorShown) → Counted number a b → c.met ≡ one_more b.met → c.ended ≡ b.ended → b.faults ≤ c.faults
    → (d.met ≡ c.met) × (d.ended ≡ c.ended) × (d.faults ≡ c.faults) → Counted (number + 1) a d
one-counted number a b c d before met ended faults kept =
    let rose = before.met in
    record { met = omega arith; ended = kept.1 ∙ ended ∙ before.ended; faults = rw kept.2 (le_trans before.faults faults) }

-- the faults so far with those of one more peer, which was cut short or not
one-fault : (count : ℕ) (a b c d : DoorShown) (cut : Bool) → RoseTogether count a b → c.receive_faults ≡ b.receive_faults → c.send_faults ≡ b.send_faults
    → c.receive_faults ≤ d.receive_faults → c.send_faults ≤ d.send_faults → (cut ≡ true → RoseEither c d)
    → RoseTogether (count + (0 + cond cut 1 0)) a d
one-fault count a b c d false before r s rs ss either u v = omega (arith, before (omega arith) (omega arith))
one-fault count a b c d true before r s rs ss either u v = by (either refl) where
  by : RoseEither c d → a.receive_faults + a.send_faults + (count + (0 + cond true 1 0)) ≤ d.receive_faults + d.send_faults
  by (inl rose) = omega (arith, before (omega arith) (omega arith))
  by (inr rose) = omega (arith, before (omega arith) (omega arith))

module _ {N S E : Type 0} (n : PeerShows N S E) (first : S) (opened : N) where
  -- so many peers were met and served so far
  pub record SoFar (number : ℕ) (s : S) (at : N) : Type 0 where
    pub meetings : List (Meeting S N E)
    pub each : Meetings n.stands n.tells n.waits n.door n.did first opened meetings s at
    pub number_is : number ≡ length meetings
    pub faults : RoseTogether (cuts n.own n.whole n.door meetings) (n.door opened) (n.door at)
    pub over : KeepsOwn n.door n.did → Counted number (n.door opened) (n.door at)

  -- nothing was done yet
  pub so-none : SoFar 0 first opened
  so-none = record {
    meetings = [];
    each = (refl, refl);
    number_is = refl;
    faults = λ u v. omega arith;
    over = λ keeps. record { met = omega arith; ended = refl; faults = omega arith };
  }

  -- one more peer behind those that were met and served
  each-more : (ms : List (Meeting S N E)) (m : Meeting S N E) (from : S) (door : N) (s : S) (at : N) → Meetings n.stands n.tells n.waits n.door n.did from door ms s at
      → MeetsPeer n.stands n.tells n.waits n.door at m.met → n.did s m.met m.how m.server m.door → Meetings n.stands n.tells n.waits n.door n.did from door (ms ++ m ∷ []) m.server m.door
  each-more [] m from door s at each meets serves = (rw (sym each.1) meets, rw (sym each.0) serves, (refl, refl))
  each-more (k ∷ ms) m from door s at each meets serves = (each.0, each.1, each-more ms m k.server k.door s at each.2 meets serves)

  -- one more peer was met and served
  pub so-more : {number : ℕ} {s : S} {at : N} {s' : S} {at' : N} → SoFar number s at → ServesOne n.stands n.tells n.waits n.door n.did n.own n.whole s at s' at' → SoFar (number + 1) s' at'
  so-more {number} {s} {at} {s'} {at'} before one =
      let m : Meeting S N E = record { met = one.met; how = one.how; server = s'; door = at' } in
      let count : Meeting S N E → ℕ = λ k. cond (is_cut (n.own k.how) (n.whole k.how) (n.door k.met).left (n.door k.door).left) 1 0 in
      record {
        meetings = before.meetings ++ m ∷ [];
        each = each-more before.meetings m first opened s at before.each one.meets one.serves;
        number_is = ap (λ k. k + 1) before.number_is ∙ sym (length-append before.meetings (m ∷ []));
        faults = rw (sum_by-append count before.meetings (m ∷ []))
            (one-fault (cuts n.own n.whole n.door before.meetings) (n.door opened) (n.door at) (n.door one.met) (n.door at')
            (is_cut (n.own one.how) (n.whole one.how) (n.door one.met).left (n.door at').left) before.faults one.meets.receives one.meets.sends one.receives one.sends one.cut);
        over = λ keeps. one-counted number (n.door opened) (n.door at) (n.door one.met) (n.door at') (before.over keeps)
            one.meets.one one.meets.ends one.meets.counted (keeps s s' one.met at' one.how one.serves);
      }

  -- no more were served: the server is as it was, and so are the faults of the door's link
  served-so : (how : DoorEnd) (limit : ℕ) {number : ℕ} {s : S} {at : N} (s' : S) (at' : N) → SoFar number s at → number ≤ limit → s' ≡ s → StopsSo n.stands n.waits n.door limit number how at at'
      → (n.door at').receive_faults ≡ (n.door at).receive_faults → (n.door at').send_faults ≡ (n.door at).send_faults
      → (Counted number (n.door opened) (n.door at) → RoseOver how number (n.door opened) (n.door at')) → PeerServes n limit how number first opened s' at'
  served-so how limit {number} {s} {at} s' at' so within same stops r t counts = record {
    meetings = so.meetings;
    last = at;
    each = rw same so.each;
    number_is = so.number_is;
    within = within;
    stops = stops;
    faults = rw (r, t) so.faults;
    over = λ keeps. counts (so.over keeps);
  }

  -- as many were served as were to be
  pub so-served : {limit number : ℕ} {s : S} {at : N} → SoFar number s at → number ≤ limit → limit ≤ number → PeerServes n limit Served number first opened s at
  so-served {limit} {number} {s} {at} so within enough = served-so Served limit s at so within refl (omega arith, refl) refl refl (λ so. so.met)

  -- the door told that no more come
  pub so-ended : {limit number : ℕ} {s : S} {at : N} {s' : S} {at' : N} → SoFar number s at → number ≤ limit → ServesNone n.stands n.waits n.door s at met.Ended s' at'
      → PeerServes n limit Ended number first opened s' at'
  so-ended {limit} {number} {s} {at} {s'} {at'} so within none =
      served-so Ended limit s' at' so within none.0 (none.1, none.2) none.1.receives none.1.sends (λ so. (rw none.1.same so.met, rw so.ended at none.2))

  -- the door failed to meet another
  pub so-failed : {limit number : ℕ} {s : S} {at : N} {s' : S} {at' : N} → SoFar number s at → number ≤ limit → ServesNone n.stands n.waits n.door s at met.Failed s' at'
      → PeerServes n limit Failed number first opened s' at'
  so-failed {limit} {number} {s} {at} {s'} {at'} so within none =
      served-so Failed limit s' at' so within none.0 (none.1, none.2) none.1.receives none.1.sends
      (λ so. (rw none.1.same so.met, rose_earlier (n.door opened).faults (n.door at).faults (n.door at').faults so.faults none.2))
