use Rattle.std.proofs.Common.{◌≡◌, ◌||◌, ℕ, Bool, List, take, Option, None, Some, refl, sym, ap, ◌∙◌}
use Rattle.std.specs.Prelude.{option_map}
use Rattle.std.specs.Option.{is_none}
use Rattle.vx_desks.specs.Ruling.{ruled_state}
use Rattle.vx_desks.proofs.ruled.RuledDesk.ask.Goals as goal

-- there is a front of a room exactly where there is a length
none-mapped : (o : Option ℕ) (room : List ℕ) → is_none (option_map (λ n. take n room) o) ≡ is_none o
none-mapped None room = refl
none-mapped (Some n) room = refl

pub returns-in-Some-clause-asks : goal.returns-in-Some-clause-asks
returns-in-Some-clause-asks g c =
    let s = c.args.self in
    let deny = c.deny-denied in (
      record {
        denied = Some c.in-Some.rule;
        by_rules = sym c.in-Some.is ∙ c.denial.ensures;
        does = record {
          noted = rw c.number-conn.ensures at deny.ensures.noted;
          same = ap (λ (b : Bool). ruled_state g.N.Note.took s.desk s.policy.now s.peer s.made.now deny.new.note b)
              (c.fails-failed.ensures ∙ ap (λ b. s.failed || b) (sym (none-mapped deny.result deny.new.reply)));
        };
      },
      refl,
      refl,
    )

pub returns-in-None-clause-asks : goal.returns-in-None-clause-asks
returns-in-None-clause-asks g c = (
  record {
    denied = None;
    by_rules = sym c.in-None.is ∙ c.denial.ensures;
    does = record { asks = c.ask-desk.ensures.asks; learns = c.learn.ensures; same = refl };
  },
  refl,
  refl,
)
