-- Answers to logins, by where they go, the frame that they encapsulate and the MAC that they grant.
use Rattle.std.proofs.Common.{◌≡◌, List, ℕ, Option, true}
use Rattle.fab_config.specs.Settings.{Settings}
use Rattle.fip_codec.specs.Message as fip
use Rattle.fip_codec.specs.declared.message.LoginKind.{LoginKind}
use Rattle.fab_policy.specs.Replies.{made_fip}

pub same_reply : (c : Settings) (kind : LoginKind) (dst d frame f : List ℕ) (mac m : Option (List ℕ)) →
    dst ≡ d → frame ≡ f → mac ≡ m → made_fip c dst (fip.LoginReply kind true frame mac) ≡ made_fip c d (fip.LoginReply kind true f m)
same_reply c kind dst d frame f mac m to is granted = cc
