use Rattle.std.proofs.Common.{◌<◌, List, [], ◌∷◌, ◌++◌, Option, Some, length, take, get_or, refl, sym, ap, subst, ◌∙◌, arith}
use Rattle.std.proofs.lemmas.List.{take_more, take_all}
use Rattle.vx_488.specs.declared.transfers.Transfer.{Transfer}
use Rattle.vx_488.specs.declared.transfers.Transfer.TheVariants.{Cmd}
use Rattle.vx_plan.specs.declared.tasks.Place.{Place}
use Rattle.vx_plan.specs.Plan as plans
use Rattle.vx_plan.specs.Plan.{Plan, Slot, left_after, next_slot}
use Rattle.vx_plan.specs.Tasks.{plan}
use Rattle.vx_plan.specs.Places.{place_of, Reaches, slot_wanted}
use Rattle.vx_plan.specs.Laws.{FitsNext}
use Rattle.vx_model.specs.Stepping.{fits_next}
use Rattle.vx_model.proofs.Standing.{fits_wanted, off_here, whole_here, part_here, wants_some}
use Rattle.vx_model.proofs.plain.stand.stand_on.Goals as goal

pub loop-t-init : goal.loop-t-init
loop-t-init c =
    let e = c.first_place-place.ensures c.args.task.now in
    let place = c.first_place-place.result in
    record {
      polling = ap (λ (p : Place). p.polling) e;
      own = ap (λ (p : Place). p.own) e;
      reached = (
        plan c.args.task.now c.args.bytes.now place.polling place.own,
        record {
          sent = c.requires.doable.sent;
          goes = refl;
          at = e ∙ ap (λ (p : Place). place_of c.args.task.now p.polling p.own []) (sym e);
        },
      );
    }

pub loop-t-preserved : goal.loop-t-preserved
loop-t-preserved c =
    let task = c.args.task.now in
    let bytes = c.args.bytes.now in
    let list = c.args.list.now in
    let i = c.loop-t.t-index in
    let t = get_or list i (Cmd 0) in
    let reached = c.loop-t.invariant.reached in
    let fit : FitsNext (next_slot reached.0) t =
    subst (λ (slot : Option Slot). FitsNext slot t) (c.next_move-next.ensures bytes (take i list) reached.0 reached.1)
    (fits_wanted (slot_wanted c.next_move-next.result bytes c.loop-t.place.moved) t (sym c.fits.ensures ∙ c.if-not-fits.false)) in
    let next = c.place_goes_on.ensures task bytes (take i list) reached.0 c.loop-t.place t reached.1 fit in
    let inside : i < length list = omega arith in
    record {
      polling = ap (λ (p : Place). p.polling) c.after-place.ensures ∙ c.loop-t.invariant.polling;
      own = ap (λ (p : Place). p.own) c.after-place.ensures ∙ c.loop-t.invariant.own;
      reached = (
        next.0,
        subst (λ (ts : List Transfer). Reaches task bytes ts next.0 c.after-place.result) (sym (take_more list i (Cmd 0) inside))
            (subst (λ (p : Place). Reaches task bytes (take i list ++ t ∷ []) next.0 p) (sym c.after-place.ensures) next.2),
      );
    }

pub returns-then-not-fits : goal.returns-then-not-fits
returns-then-not-fits c =
    let task = c.args.task.now in
    let bytes = c.args.bytes.now in
    let list = c.args.list.now in
    let i = c.loop-t.t-index in
    let place = c.loop-t.place in
    let t = get_or list i (Cmd 0) in
    let reached = c.loop-t.invariant.reached in
    let inside : i < length list = omega arith in
    sym (
    off_here (plan task bytes place.polling place.own) reached.0 list i (Cmd 0) reached.1.goes inside
    (ap (λ slot. fits_next slot t) (sym (c.next_move-next.ensures bytes (take i list) reached.0 reached.1)) ∙ sym c.fits.ensures ∙ c.if-not-fits.true)
    )
    ∙ ap (λ polling. plans.stand (plan task bytes polling place.own) list) c.loop-t.invariant.polling
    ∙ ap (λ own. plans.stand (plan task bytes c.args.wire.now.polling own) list) c.loop-t.invariant.own

pub returns-in-Finished : goal.returns-in-Finished
returns-in-Finished c =
    let task = c.args.task.now in
    let bytes = c.args.bytes.now in
    let list = c.args.list.now in
    let i = c.loop-t.t-index in
    let place = c.loop-t.place in
    let reached = c.loop-t.invariant.reached in
    let p = plan task bytes place.polling place.own in
    sym (
    whole_here p reached.0 list (ap (left_after (Some p)) (sym (take_all i list c.loop-t-test.false)) ∙ reached.1.goes)
    (sym (c.next_move.ensures bytes (take i list) reached.0 reached.1) ∙ ap (λ move. slot_wanted move bytes place.moved) c.in-Finished.is)
    )
    ∙ ap (λ polling. plans.stand (plan task bytes polling place.own) list) c.loop-t.invariant.polling
    ∙ ap (λ own. plans.stand (plan task bytes c.args.wire.now.polling own) list) c.loop-t.invariant.own

pub returns-in_default : goal.returns-in_default
returns-in_default c =
    let task = c.args.task.now in
    let bytes = c.args.bytes.now in
    let list = c.args.list.now in
    let i = c.loop-t.t-index in
    let place = c.loop-t.place in
    let reached = c.loop-t.invariant.reached in
    let p = plan task bytes place.polling place.own in
    sym (
    part_here p reached.0 list (ap (left_after (Some p)) (sym (take_all i list c.loop-t-test.false)) ∙ reached.1.goes)
    (λ none. wants_some c.next_move.result bytes place.moved c.in_default.not-Finished (c.next_move.ensures bytes (take i list) reached.0 reached.1 ∙ none))
    )
    ∙ ap (λ polling. plans.stand (plan task bytes polling place.own) list) c.loop-t.invariant.polling
    ∙ ap (λ own. plans.stand (plan task bytes c.args.wire.now.polling own) list) c.loop-t.invariant.own
