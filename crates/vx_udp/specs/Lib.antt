pub mod UdpState
