-- What is heard on the way through steps is taken.
use Rattle.std.proofs.Common.{◌≡◌, Bool, true, false, cond, List, [], ◌∷◌, ◌++◌, refl, sym, ap, ◌∙◌, subst}
use Rattle.std.specs.List.{list_all, AllZip}
use Rattle.std.proofs.lemmas.Bool.{and_parts}
use Rattle.vx_488.specs.declared.transfers.Addr.{Addr}
use Rattle.vx_488.specs.declared.transfers.Transfer.TheVariants.{Cmd, Put, Got, Ren, Atn, Ifc, Own}
use Rattle.vx_488.specs.declared.commands.Command.{Command}
use Rattle.vx_488.specs.declared.commands.Command.TheVariants as command
use Rattle.vx_488.specs.declared.wire.Wire.{Wire}
use Rattle.vx_488.specs.Command.{command_of}
use Rattle.vx_488.specs.Heard.{Byte, heard_of, heard}
use Rattle.vx_488.specs.Listening.{has_address}
use Rattle.vx_488.specs.Wire.{step}
use Rattle.vx_488.specs.Means.{Means}
use Rattle.vx_488.specs.Steps.{Step, Went, Held, Failed, Told, Cut}
use Rattle.vx_sim.specs.Occupants.{Occupant, Placed, TakesByte}
use Rattle.vx_sim.specs.Bench.{listens, OccupantWhere, BenchWhere, BenchAfterCommand, BenchAfterRemote}
use Rattle.vx_sim.specs.SimState.{SimState, means_after, BenchThrough}
use Rattle.vx_sim.specs.Laws.{transfers, is_quiet, only_puts, TakesAll, HeardLaw}

-- what an address hears of a step, and the wire after it
abbrev heard_in : Addr → Wire → Step → List Byte
heard_in a w (Went t) = heard_of a w t
heard_in a w _ = []

abbrev wire_past : Wire → Step → Wire
wire_past w (Went t) = step w t
wire_past w _ = w

-- it took these, each at its address
abbrev Took : (Addr → List Byte) → Placed → Placed → Type 0
Took bytes p q = (q.at ≡ p.at) × TakesAll (bytes p.at) p.occupant q.occupant

-- one list of bytes and then another
takes-append : (bs cs : List Byte) (old mid new : Occupant) → TakesAll bs old mid → TakesAll cs mid new → TakesAll (bs ++ cs) old new
takes-append [] cs old mid new first then' = subst (λ (s : Occupant). TakesAll cs s new) first then'
takes-append (b ∷ bs) cs old mid new first then' = (first.0, first.1, takes-append bs cs first.0 mid new first.2 then')

-- the same at each place
took-append : (f g h : Addr → List Byte) → ((a : Addr) → h a ≡ f a ++ g a) → (old mid new : List Placed) → AllZip (Took f) old mid → AllZip (Took g) mid new → AllZip (Took h) old new
took-append f g h both [] [] [] first then' = tt
took-append f g h both [] [] (z ∷ zs) first then' = absurd then'
took-append f g h both [] (y ∷ ys) new first then' = absurd first
took-append f g h both (x ∷ xs) [] new first then' = absurd first
took-append f g h both (x ∷ xs) (y ∷ ys) [] first then' = absurd then'
took-append f g h both (x ∷ xs) (y ∷ ys) (z ∷ zs) first then' = (
  (
    then'.0.0 ∙ first.0.0,
    subst (λ bytes. TakesAll bytes x.occupant z.occupant) (sym (both x.at))
        (takes-append (f x.at) (g x.at) x.occupant y.occupant z.occupant first.0.1 (subst (λ (a : Addr). TakesAll (g a) y.occupant z.occupant) first.0.0 then'.0.1)),
  ),
  took-append f g h both xs ys zs first.1 then'.1,
)

-- where nothing is heard and nothing changed
unmoved : (bench : List Placed) → AllZip (Took (λ a. [])) bench bench
unmoved [] = tt
unmoved (p ∷ ps) = ((refl, refl), unmoved ps)

still : (old new : List Placed) → new ≡ old → AllZip (Took (λ a. [])) old new
still old new same = subst (λ (ps : List Placed). AllZip (Took (λ a. [])) old ps) (sym same) (unmoved old)

-- a byte that is put
put_taken : (w : Wire) (b : Byte) (old new : List Placed) → BenchWhere (listens w) (TakesByte b.value b.end) old new → AllZip (Took (λ a. cond (has_address w.listeners a) (b ∷ []) [])) old new
put_taken w b [] [] h = tt
put_taken w b [] (q ∷ qs) h = absurd h
put_taken w b (p ∷ ps) [] h = absurd h
put_taken w b (p ∷ ps) (q ∷ qs) h = ((h.0.0, at (has_address w.listeners p.at) h.0.1), put_taken w b ps qs h.1)
  where
    at : (hears : Bool) → OccupantWhere hears (TakesByte b.value b.end) p.occupant q.occupant → TakesAll (cond hears (b ∷ []) []) p.occupant q.occupant
    at true take = (q.occupant, take, refl)
    at false same = same

-- a quiet command changes nothing
quiet_same : (w : Wire) (c : Command) (old new : List Placed) → is_quiet c ≡ true → BenchAfterCommand w c old new → new ≡ old
quiet_same w command.SelectedClear old new quiet h = cc
quiet_same w command.Trigger old new quiet h = cc
quiet_same w command.GoToLocal old new quiet h = cc
quiet_same w command.DeviceClear old new quiet h = cc
quiet_same w _ old new quiet h = h

remote_same : (on : Bool) (old new : List Placed) → on ≡ true → BenchAfterRemote on old new → new ≡ old
remote_same true old new is h = h
remote_same false old new is h = cc

-- one step
step_taken : (s : Step) (old : SimState) (new : List Placed) → only_puts s ≡ true → BenchThrough old s new → AllZip (Took (λ a. heard_in a old.means.wire s)) old.bench new
step_taken (Went (Cmd b)) old new quiet h = still old.bench new (quiet_same old.means.wire (command_of b) old.bench new quiet h)
step_taken (Went (Put b end)) old new quiet h = put_taken old.means.wire (record { value = b; end = end }) old.bench new h
step_taken (Went (Got b end)) old new quiet h = cc
step_taken (Went (Ren on)) old new quiet h = still old.bench new (remote_same on old.bench new quiet h)
step_taken (Went (Atn on)) old new quiet h = still old.bench new h
step_taken (Went Ifc) old new quiet h = still old.bench new h
step_taken (Went (Own a)) old new quiet h = still old.bench new h
step_taken (Held asked) old new quiet h = still old.bench new h
step_taken (Failed asked) old new quiet h = still old.bench new h
step_taken (Told now) old new quiet h = cc
step_taken Cut old new quiet h = still old.bench new h

-- the wire after a step
wire_is : (s : Step) (m n : Means) → n ≡ means_after m s → n.wire ≡ wire_past m.wire s
wire_is (Went t) m n e = ap (λ (x : Means). x.wire) e
wire_is (Held asked) m n e = ap (λ (x : Means). x.wire) e
wire_is (Failed asked) m n e = ap (λ (x : Means). x.wire) e
wire_is (Told now) m n e = ap (λ (x : Means). x.wire) e
wire_is Cut m n e = ap (λ (x : Means). x.wire) e

-- what is heard of a step and of those after it
heard_on : (s : Step) (steps : List Step) (w : Wire) (a : Addr) → heard a w (transfers (s ∷ steps)) ≡ heard_in a w s ++ heard a (wire_past w s) (transfers steps)
heard_on (Went t) steps w a = refl
heard_on (Held asked) steps w a = refl
heard_on (Failed asked) steps w a = refl
heard_on (Told now) steps w a = refl
heard_on Cut steps w a = refl

-- What is heard on the way is taken.
pub heard-taken : HeardLaw
heard-taken old new [] quiet walk = still old.bench new.bench (ap (λ (s : SimState). s.bench) walk)
heard-taken old new (s ∷ steps) quiet walk =
    let mid = walk.0 in
    let both = and_parts (only_puts s) (list_all only_puts steps) quiet in
    let through = walk.1.1 in
    let wire = wire_is s old.means mid.means through.1 in
    took-append (λ a. heard_in a old.means.wire s) (λ a. heard a (wire_past old.means.wire s) (transfers steps)) (λ a. heard a old.means.wire (transfers (s ∷ steps)))
    (heard_on s steps old.means.wire) old.bench mid.bench new.bench
    (step_taken s old mid.bench both.0 through.2)
    (subst (λ (w : Wire). AllZip (Took (λ a. heard a w (transfers steps))) mid.bench new.bench) wire (heard-taken mid new steps both.1 walk.2))
