use Rattle.vx_rules.proofs.Giving.{numbers_rise-law, link_given-law, connection_given-law, channel_given-law, links_given_once-law, connections_given_once-law, channels_given_once-law}
use Rattle.vx_rules.proofs.theorems.numbers_given_once.Goals as goal

pub returns : goal.returns
returns c = record {
  next = numbers_rise-law;
  link = link_given-law;
  connection = connection_given-law;
  channel = channel_given-law;
  links = links_given_once-law;
  connections = connections_given_once-law;
  channels = channels_given_once-law;
}
