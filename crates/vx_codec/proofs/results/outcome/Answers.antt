use Rattle.std.proofs.Common.{refl}
use Rattle.vx_codec.proofs.Laws.Written.{form_of-others}
use Rattle.vx_codec.proofs.results.outcome.Goals as goal

pub returns-in-Null : goal.returns-in-Null
returns-in-Null c = rw c.in-Null.is refl

pub returns-in-CreateLink : goal.returns-in-CreateLink
returns-in-CreateLink c = rw c.in-CreateLink.is c.create_link.ensures

pub returns-in-Write : goal.returns-in-Write
returns-in-Write c = rw c.in-Write.is c.write.ensures

pub returns-in-Read : goal.returns-in-Read
returns-in-Read c = rw c.in-Read.is c.read.ensures

pub returns-in-ReadStb : goal.returns-in-ReadStb
returns-in-ReadStb c = rw c.in-ReadStb.is c.stb.ensures

pub returns-in-Docmd : goal.returns-in-Docmd
returns-in-Docmd c = rw c.in-Docmd.is c.docmd.ensures

pub returns-in_default : goal.returns-in_default
returns-in_default c =
    let n = c.in_default in
    rw (form_of-others c.args.proc n.not-Null n.not-CreateLink n.not-Write n.not-Read n.not-ReadStb n.not-Docmd) c.error.ensures
