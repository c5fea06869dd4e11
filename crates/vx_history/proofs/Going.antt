-- A walk along the lines of a trace.
use Rattle.std.proofs.Common.{◌≡◌, ℕ, ◌+◌, ◌≤◌, Bool, List, [], ◌∷◌, ◌++◌, length, Option, Ok, Err, refl, sym, ap, subst, arith, append_assoc}
use Rattle.std.proofs.lemmas.List.Elements.{All-tail}
use Rattle.vx_flow.specs.Event.{Event}
use Rattle.vx_history.specs.declared.cause.Cause.{Cause}
use Rattle.vx_history.specs.declared.cause.Stop.TheVariants as stop
use Rattle.vx_history.specs.Shown.{Timed, TraceShows, whole_lines}
use Rattle.vx_history.specs.CheckState.{CheckState, beginning}
use Rattle.vx_history.specs.Taking.{Taken, takes}
use Rattle.vx_history.specs.History.{Walk, Through, Stops, WalksBy, Walks, behind, is_over}
use Rattle.vx_history.specs.Walking.{AllWithin, GoesThrough, TakesText}

-- A walk under way: these are the events so far, and what comes of the lines that are left comes of all behind them. So many lines were
-- taken.
pub record UnderWay (text rest : List ℕ) (count : ℕ) (s : CheckState) : Type 0 where
  pub events : List Event
  pub goes : (far : Walk) → Walks (count + 1) s (whole_lines rest) far → Walks 1 beginning (whole_lines text) (behind events far)
  pub counted : count + length (whole_lines rest) ≡ length (whole_lines text)

-- no event in front changes nothing
behind-nothing : (far : Walk) → behind [] far ≡ far
behind-nothing (Through events after) = refl
behind-nothing (Stops line why) = refl

behind-both : (xs ys : List Event) (far : Walk) → behind xs (behind ys far) ≡ behind (xs ++ ys) far
behind-both xs ys (Through events after) = ap (λ zs. Through zs after) (sym (append_assoc xs ys events))
behind-both xs ys (Stops line why) = refl

pub begun : (text : List ℕ) (s : CheckState) → s ≡ beginning → UnderWay text text 0 s
begun text s is = record {
  events = [];
  goes = λ far walks. subst (Walks 1 beginning (whole_lines text)) (sym (behind-nothing far)) (subst (λ t. Walks 1 t (whole_lines text) far) is walks);
  counted = omega arith;
}

-- a line is taken
walks-on : (n : ℕ) (s : CheckState) (text : List ℕ) (texts : List (List ℕ)) (shown : Option Timed) (events : List Event) (now : CheckState) (far : Walk)
    → TraceShows text shown → takes s shown ≡ Taken events now → Walks (n + 1) now texts far → Walks n s (text ∷ texts) (behind events far)
walks-on n s text texts shown events now far shows took walks =
    (shown, shows, subst (WalksBy n (λ after later. Walks (n + 1) after texts later) (behind events far)) (sym took) (far, walks, refl))

pub goes-on : (text rest line behind_it : List ℕ) (count : ℕ) (s now : CheckState) → UnderWay text rest count s → whole_lines rest ≡ line ∷ whole_lines behind_it
    → TakesText s line (Ok tt) now → UnderWay text behind_it (count + 1) now
goes-on text rest line behind_it count s now u cut (shown, shows, events_took) = record {
  events = u.events ++ events_took.0;
  goes = λ far walks. subst (Walks 1 beginning (whole_lines text)) (behind-both u.events events_took.0 far)
      (u.goes (behind events_took.0 far) (subst (λ ts. Walks (count + 1) s ts (behind events_took.0 far)) (sym cut)
      (walks-on (count + 1) s line (whole_lines behind_it) shown events_took.0 now far shows events_took.1 walks)));
  counted = (let len = ap length cut in let all = u.counted in omega arith);
}

-- a line has a cause against it
pub stops-at : (text rest line behind_it : List ℕ) (count : ℕ) (s now : CheckState) (why : Cause) → UnderWay text rest count s → whole_lines rest ≡ line ∷ whole_lines behind_it
    → TakesText s line (Err (stop.Spoiled why)) now → Walks 1 beginning (whole_lines text) (Stops (count + 1) why)
stops-at text rest line behind_it count s now why u cut (shown, shows, took) =
    u.goes (Stops (count + 1) why) (subst (λ ts. Walks (count + 1) s ts (Stops (count + 1) why)) (sym cut)
    (shown, shows, subst (WalksBy (count + 1) (λ after later. Walks (count + 1 + 1) after (whole_lines behind_it) later) (Stops (count + 1) why)) (sym took) refl))

-- no line is left
pub through : (text rest : List ℕ) (count : ℕ) (s : CheckState) (over : Bool) → UnderWay text rest count s → whole_lines rest ≡ [] → over ≡ is_over s.next
    → GoesThrough (whole_lines text) (count + 1) over
through text rest count s over u none is = record {
  events = u.events ++ [];
  after = s;
  walks = u.goes (Through [] s) (subst (λ ts. Walks (count + 1) s ts (Through [] s)) (sym none) refl);
  next_is = (let len = ap length none in let all = u.counted in omega arith);
  over_is = is;
}

-- no line that is left is longer than none of all was
pub tail-within : (m n : ℕ) (texts : List (List ℕ)) (line : List ℕ) (others : List (List ℕ)) → m ≡ n → texts ≡ line ∷ others → AllWithin m texts → AllWithin n others
tail-within m n texts line others same is within =
    subst (λ k. AllWithin k others) same (All-tail (λ xs. length xs + 1 ≤ m) line others (subst (AllWithin m) is within))
