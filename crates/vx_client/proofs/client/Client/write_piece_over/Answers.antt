use Rattle.vx_client.proofs.client.Client.write_piece_over.Goals as goal

pub returns-clause-told : goal.returns-clause-told
returns-clause-told g c = rw (← c.self.view_is) c.order.ensures.told
