-- What a server's net and its sink show.
use Rattle.vx_io_traits.specs.declared.nets.Net.{Ghosts as NetTold}
use Rattle.vx_io_traits.specs.declared.Sink.{Ghosts as SinkTold}
use Rattle.vx_startup.specs.Ends.{sink_shown}
use Rattle.vx_startup.specs.Running.{Ports, net_shown}

-- of all that their traits tell; `P` is the type of the net's ports, and `L` that of the links that they give
abbrev pub ports_shown : {N P L K : Type 0} → NetTold N P L → SinkTold K → N → K → Ports
ports_shown net_told sink_told net sink = record { net = net_shown net_told net; sink = sink_shown sink_told sink }
