-- After each legal journal the tables are sound: it was so before anything happened, and each right entry keeps it.
use Rattle.std.proofs.Common.{◌≡◌, ℕ, zero, suc, ◌+◌, ◌*◌, [], ◌∷◌, refl, sym, ap, subst, arith, filter, filter_map, length}
use Rattle.fab_base.specs.Counting.{counting}
use Rattle.fab_config.specs.Settings.{Settings}
use Rattle.fab_policy.specs.State.{is_overdue, live_port, tables_of}
use Rattle.fab_policy.specs.Written.{HaveDifferentNames, IsSound, LegalIsSound}
use Rattle.fab_policy.proofs.Found.{ascends}
use Rattle.fab_policy.proofs.SoundTables.{tables_sound}
use Rattle.fab_policy.proofs.Steps.{live_addressed, steps}

-- nobody is live before anything happened
none_live : (n k : ℕ) → filter_map (λ a. live_port a []) (counting k n) ≡ []
none_live zero k = refl
none_live (suc n) k = none_live n (k + 1)

first_sound : (c : Settings) → IsSound c (tables_of c [])
first_sound c =
    let none = none_live c.pool (c.domain * 65536 + 256) in
    record {
      ascending = ascends (λ a. live_port a []) (live_addressed []) c.pool (c.domain * 65536 + 256) (c.domain * 65536 + 256 + c.pool) (omega arith);
      names = subst HaveDifferentNames (sym none) tt;
      few = omega (arith, ap length none);
      quiet = ap (filter (is_overdue c 0)) none;
    }

pub legal_is_sound : LegalIsSound
legal_is_sound c [] l = first_sound c
legal_is_sound c (e ∷ J) l = subst (IsSound c) (sym (steps c e J)) (tables_sound c (tables_of c J) e (legal_is_sound c J l.0) l.1)
