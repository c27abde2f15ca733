-- Frames by their parts.
use Rattle.std.proofs.Common.{◌≡◌, List, ℕ, Option, true}
use Rattle.eth_frames.specs.Ethernet as eth
use Rattle.fip_codec.specs.Message as fip
use Rattle.fip_codec.specs.declared.message.LoginKind.{LoginKind}
use Rattle.fab_vectors.specs.Frames.{fip_frame}

pub same_login : (tag : Option ℕ) (dst : List ℕ) (port : ℕ) (kind k : LoginKind) (frame f mac : List ℕ) → kind ≡ k → frame ≡ f
    → fip_frame tag dst port (fip.Login kind true frame mac) ≡ fip_frame tag dst port (fip.Login k true f mac)
same_login tag dst port kind k frame f mac as_kind is = cc

pub same_eth : (dst src s : List ℕ) (tag : Option ℕ) (kind : ℕ) (body b : List ℕ) → src ≡ s → body ≡ b
    → eth.written (record { dst = dst; src = src; tag = tag; kind = kind; body = body }) ≡ eth.written (record { dst = dst; src = s; tag = tag; kind = kind; body = b })
same_eth dst src s tag kind body b from is = cc
