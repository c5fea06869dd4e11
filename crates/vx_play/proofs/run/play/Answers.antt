use Rattle.std.proofs.Common.{map, string_bytes, refl, sym, ap, inl}
use Rattle.std.specs.Prelude.{is_some}
use Rattle.vx_play.proofs.RunEnding.{run-outcome, usage-outcome}
use Rattle.vx_play.proofs.WholePlay.{script-ended, lift-ended, long-ended}
use Rattle.vx_play.proofs.run.play.Goals as goal

pub returns-in-Play : goal.returns-in-Play
returns-in-Play g c = record {
  outcome = script-ended (map string_bytes c.args.words.now) _ _ _ _ _ (cc (c.in-Some.ensures, c.in-Play.is)) c.in-Whole.ensures.read
      c.deref.ensures.value c.play_script.ensures.ended;
}

pub returns-in-Lift : goal.returns-in-Lift
returns-in-Lift g c = record {
  outcome = lift-ended (map string_bytes c.args.words.now) _ _ _ _ _ (cc (c.in-Some.ensures, c.in-Lift.is)) c.in-Whole.ensures.read
      c.deref-in-Lift.ensures.value c.lift.ensures.ended;
}

pub returns-in-TooLong : goal.returns-in-TooLong
returns-in-TooLong g c = record {
  outcome = long-ended (map string_bytes c.args.words.now) _ _ _ (ap is_some (sym c.in-Some.ensures)) c.in-TooLong.ensures.read c.put_last.ensures.put;
}

pub returns-in-Failed : goal.returns-in-Failed
returns-in-Failed g c = record {
  outcome = (
    record { command = ap is_some (sym c.in-Some.ensures); read = c.in-Failed.ensures.read.1; unwritten = refl },
    c.in-Failed.ensures.read.0,
  );
}

pub returns-in-NoMemory : goal.returns-in-NoMemory
returns-in-NoMemory g c = record {
  outcome = inl (record { command = ap is_some (sym c.in-Some.ensures); read = c.in-NoMemory.ensures.read; unwritten = refl });
}

pub returns-in-Some-ask_of : goal.returns-in-Some-ask_of
returns-in-Some-ask_of g c = record {
  outcome = run-outcome (map string_bytes c.args.words.now) _ _ c.in-Some-ask_of.ask _ c.in-Some-ask_of.ensures.some.0 c.in-Some-ask_of.ensures.some.1 refl c.make_run.ensures.ended;
}

pub returns-in-None-ask_of : goal.returns-in-None-ask_of
returns-in-None-ask_of g c = record {
  outcome = usage-outcome (map string_bytes c.args.words.now) _ _ _
      (record { no_command = sym c.in-None.ensures; no_run = c.in-None-ask_of.ensures.none refl; unread = refl }) c.put_last-in-None-ask_of.ensures.put;
}
