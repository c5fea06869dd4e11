-- A net that is a door and a box.

pub record HostState (D B : Type 0) : Type 0 where
  pub door : D
  pub packets : B
