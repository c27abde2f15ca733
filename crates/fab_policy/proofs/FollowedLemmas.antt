-- The frames and the ports of entries that come after others.
use Rattle.std.proofs.Common.{◌≡◌, ℕ, eqb, List, [], ◌∷◌, ◌++◌, refl, sym, ap, ◌∙◌, subst, append_assoc}
use Rattle.std.specs.Prelude.{if◌then◌else◌}
use Rattle.std.proofs.lemmas.List.{append-nil}
use Rattle.fab_base.specs.declared.values.Caught.{Caught}
use Rattle.fab_policy.specs.Journal.{Journal, followed}
use Rattle.fab_policy.specs.Legal.{HasPorts, of_port}
use Rattle.fab_policy.specs.Standing.{AreFrames}
use Rattle.fab_policy.specs.declared.event.Event.{Event}
use Rattle.fab_policy.specs.declared.event.Event.TheVariants.{Tick, Frame}

-- entries stand in front of those that they follow
pub followed-append : (J : Journal) (es : List Event) → followed J es ≡ followed [] es ++ J
followed-append J [] = refl
followed-append J (e ∷ es) =
    followed-append (e ∷ J) es ∙ sym (ap (λ l. l ++ J) (followed-append (e ∷ []) es) ∙ append_assoc (followed [] es) (e ∷ []) J)

-- the frames of a port
pub of_port-append : (p : ℕ) (I J : Journal) → of_port p (I ++ J) ≡ of_port p J ++ of_port p I
of_port-append p [] J = sym (append-nil (of_port p J))
of_port-append p (Tick m ended ∷ I) J = of_port-append p I J
of_port-append p (Frame port index caught verdict ∷ I) J =
    let own : List (ℕ × Caught) = if eqb port p then (index, caught) ∷ [] else [] in
    ap (λ l. l ++ own) (of_port-append p I J) ∙ append_assoc (of_port p J) (of_port p I) own

pub of_port-followed : (p : ℕ) (J : Journal) (es : List Event) → of_port p (followed J es) ≡ of_port p J ++ of_port p (followed [] es)
of_port-followed p J es = ap (of_port p) (followed-append J es) ∙ of_port-append p (followed [] es) J

-- ports
pub ports-append : (n : ℕ) (I J : Journal) → HasPorts n I → HasPorts n J → HasPorts n (I ++ J)
ports-append n [] J h k = k
ports-append n (Tick m ended ∷ I) J h k = ports-append n I J h k
ports-append n (Frame port index caught verdict ∷ I) J h k = (ports-append n I J h.0 k, h.1, h.2)

pub ports-followed : (n : ℕ) (J : Journal) (es : List Event) → HasPorts n J → HasPorts n (followed [] es) → HasPorts n (followed J es)
ports-followed n J es h k = subst (HasPorts n) (sym (followed-append J es)) (ports-append n (followed [] es) J k h)

pub ports-each : (n : ℕ) (I J : Journal) → HasPorts n (I ++ J) → HasPorts n I × HasPorts n J
ports-each n [] J h = (tt, h)
ports-each n (Tick m ended ∷ I) J h = ports-each n I J h
ports-each n (Frame port index caught verdict ∷ I) J h = let more = ports-each n I J h.0 in ((more.0, h.1, h.2), more.1)

-- the ports of a first entry, and of those behind it
pub ports-first : (n : ℕ) (e : Event) (es : List Event) → HasPorts n (followed [] (e ∷ es)) → HasPorts n (followed [] es) × HasPorts n (e ∷ [])
ports-first n e es h = ports-each n (followed [] es) (e ∷ []) (subst (HasPorts n) (followed-append (e ∷ []) es) h)

-- frames
pub frames-append : (es more : List Event) → AreFrames es → AreFrames more → AreFrames (es ++ more)
frames-append [] more h k = k
frames-append (Tick m ended ∷ es) more h k = absurd h
frames-append (Frame port index caught verdict ∷ es) more h k = frames-append es more h k
