use Rattle.std.proofs.Common.{◌≡◌, false, arith, sym, subst, ◌∙◌}
use Rattle.vx_rules.specs.Table.{is_live, IsNumbered}
use Rattle.vx_rules.proofs.Laws.Numbers.{next_free, numbered-with_link}
use Rattle.vx_links.proofs.Rows.{added_is, numbered_is}
use Rattle.vx_links.proofs.links.Links.insert.Goals as goal

pub invariant_of-self : goal.invariant_of-self
invariant_of-self c =
    let shown = added_is c.args.self.now c.self.inside c.push_reserved.new.self.items c.args.conn c.args.target c.self.view_is c.push_reserved.ensures.items in
    let numbered = numbered_is _ c.self.inside c.self.view_is c.self.invariant in
    record {
      room = omega arith;
      numbered = subst IsNumbered (sym shown)
          (numbered-with_link c.args.self.now c.args.conn c.args.target numbered (sym c.is_full.ensures ∙ c.if-is_full.false));
    }

pub returns-clause-fresh : goal.returns-clause-fresh
returns-clause-fresh c = subst (λ t. is_live t c.self.inside.next ≡ false) c.self.view_is (next_free _ c.self.invariant.numbered)
