use Rattle.std.proofs.Common.{refl}
use Rattle.clap.proofs.OnLiterals.{clap_on_literals}
use Rattle.vx_startup.specs.Meant.{rows, verdict}
use Rattle.vx_startup.proofs.words.words_law.Goals as goal

pub returns-clause-none : goal.returns-clause-none
unfolding clap_on_literals verdict rows
returns-clause-none c = (refl, record { core = refl; abort = refl; sample = refl; workers = refl; limit = refl; keepalive = refl; send_timeout = refl; idle = refl; abort_idle = refl; patience = refl; log = refl; map = refl })

pub returns-clause-some : goal.returns-clause-some
unfolding clap_on_literals verdict rows
returns-clause-some c = (refl, record { core = refl; abort = refl; sample = refl; workers = refl; limit = refl; keepalive = refl; send_timeout = refl; idle = refl; abort_idle = refl; patience = refl; log = refl; map = refl })

pub returns-clause-above : goal.returns-clause-above
unfolding clap_on_literals verdict
returns-clause-above c = refl

pub returns-clause-below : goal.returns-clause-below
unfolding clap_on_literals verdict
returns-clause-below c = refl

pub returns-clause-twice : goal.returns-clause-twice
unfolding clap_on_literals verdict
returns-clause-twice c = refl

pub returns-clause-stray : goal.returns-clause-stray
unfolding clap_on_literals verdict
returns-clause-stray c = refl

pub returns-clause-help : goal.returns-clause-help
unfolding clap_on_literals verdict
returns-clause-help c = refl

pub returns-clause-version : goal.returns-clause-version
unfolding clap_on_literals verdict
returns-clause-version c = refl

pub returns-clause-times : goal.returns-clause-times
unfolding clap_on_literals verdict rows
returns-clause-times c = (refl, record { core = refl; abort = refl; sample = refl; workers = refl; limit = refl; keepalive = refl; send_timeout = refl; idle = refl; abort_idle = refl; patience = refl; log = refl; map = refl })

pub returns-clause-log : goal.returns-clause-log
unfolding clap_on_literals verdict rows
returns-clause-log c = (refl, record { core = refl; abort = refl; sample = refl; workers = refl; limit = refl; keepalive = refl; send_timeout = refl; idle = refl; abort_idle = refl; patience = refl; log = refl; map = refl })

pub returns-clause-late : goal.returns-clause-late
unfolding clap_on_literals verdict
returns-clause-late c = refl

pub returns-clause-valued : goal.returns-clause-valued
unfolding clap_on_literals verdict
returns-clause-valued c = refl

pub returns-clause-map : goal.returns-clause-map
unfolding clap_on_literals verdict rows
returns-clause-map c = (refl, record { core = refl; abort = refl; sample = refl; workers = refl; limit = refl; keepalive = refl; send_timeout = refl; idle = refl; abort_idle = refl; patience = refl; log = refl; map = refl })

pub returns-clause-impatient : goal.returns-clause-impatient
unfolding clap_on_literals verdict
returns-clause-impatient c = refl

pub returns-clause-names : goal.returns-clause-names
unfolding clap_on_literals rows
returns-clause-names c = refl

pub returns-clause-nameless : goal.returns-clause-nameless
unfolding clap_on_literals rows
returns-clause-nameless c = refl

pub returns-clause-ruled : goal.returns-clause-ruled
unfolding clap_on_literals rows
returns-clause-ruled c = refl

pub returns-clause-unruled : goal.returns-clause-unruled
unfolding clap_on_literals rows
returns-clause-unruled c = refl
