-- What a stream begins with.
use Rattle.std.proofs.Common.{ℕ, zero, suc, List, [], IsTrue, drop, refl}
use Rattle.std.specs.Prelude.{is_some}
use Rattle.pcap_file.specs.declared.Budget.{Budget}
use Rattle.pcapng_file.specs.declared.NgRecord.{NgRecord}
use Rattle.pcapng_file.specs.declared.fault.NgError.{NgError}
use Rattle.pcapng_file.specs.File.{Section, before_all, content_at, head_at, after, Blocks, IsNg}
use Rattle.pcapng_file.specs.Stream.{Parts, Stops}
use Rattle.fab_live.specs.Live.{Begins}

-- a file of packets begins with them
pub blocks_parts : (n : ℕ) (s : Section) (v : List NgRecord) (l : List ℕ) → Blocks n s v l → (t : Section) × IsTrue (is_some t.order) × Parts n s v l t []
blocks_parts zero s v l b = (s, b.0, (b.1, refl, b.2))
blocks_parts (suc n) s v l b = let rest = blocks_parts n (after s (content_at s l)) b.2 (drop (head_at s l).size l) b.4 in (rest.0, rest.1, (b.0, b.1, b.2, b.3, rest.2))

pub begins_file : (v : List NgRecord) (l : List ℕ) → IsNg v l → Begins v l
begins_file v l b = let parts = blocks_parts b.0 before_all v l b.1 in (parts.0, [], (b.0, parts.2))

pub begins_stop : (v : List NgRecord) (l : List ℕ) (budget : Budget) (e : NgError) → Stops v l budget e → Begins v l
begins_stop v l budget e s = (s.section, s.rest, s.begins)
