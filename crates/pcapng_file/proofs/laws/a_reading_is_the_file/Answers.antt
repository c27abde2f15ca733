use Rattle.std.proofs.Common.{◌∙◌, sym, length, suc}
use Rattle.pcapng_file.specs.File.{before_all}
use Rattle.pcapng_file.proofs.GoingLemmas.{read_is}
use Rattle.pcapng_file.proofs.LawLemmas.{read_is_file, file_is_read}
use Rattle.pcapng_file.proofs.laws.a_reading_is_the_file.Goals as goal

pub returns : goal.returns
returns c = λ budget v l. (
  λ e. let r = read_is_file (suc (length l)) budget 0 before_all l v (sym (read_is budget l) ∙ e) in (r.file, (r.bytes, r.frames)),
  λ h. file_is_read budget v l h.0 h.1.0 h.1.1,
)
