-- The converse of the walk: what a job reads, or the first test that it fails, is what decoding comes to.
use Prim.Native.Nat.{ℕ}
use mathlib.Core.Path.{◌≡◌}
use mathlib.Core.List.{List}
use native.Mathlib.Omega.{arith}
use lib.ListN.{length}
use Rattle.model.specs.Command.{Command}
use Rattle.model.specs.Refusal.{Refusal, refuse, accepted, rejected, decode, Sizes, decode_for}
use Rattle.model.specs.Conclusion.{HasLength, Reads, begin, further, Refuses, empty, long, no_command, cut_off, violates, jumps_far}
use Rattle.model.specs.Conclusion.{permits_unused, has_short_buffer, Accepts}
use Rattle.model.proofs.Decoding.{Decoding, decode-empty, decode-long, decoding_start, decoding_on, decoding_end, decoding_unknown}
use Rattle.model.proofs.Decoding.{decoding_short, decoding_refused}
use Rattle.model.proofs.Results.{decode-job-rejected, decode_job_jump, decode_job_unused, decode-job-accepted, decode_for_rejected}
use Rattle.model.proofs.Walking.{PassedEight}

-- decoding comes to every place that is read
reads_decoding : {job : List ℕ} {place : ℕ} {past : List Command} → HasLength job → Reads job place past → Decoding job place past
reads_decoding {job} size begin = decoding_start job (λ z. omega arith) size.highest
reads_decoding {job} size (further place past c next reads h e v) = decoding_on job place past (reads_decoding size reads) h c next e v

pub read-accepted : (job : List ℕ) (past : List Command) → PassedEight job past → decode job ≡ accepted past
read-accepted job past q = decoding_end job (length job) past (reads_decoding q.size q.reads) (omega arith)

-- an accepted job
pub accepts_decodes : (job : List ℕ) (b : Sizes) (past : List Command) → Accepts job b past → decode_for job b ≡ accepted past
unfolding decode_for
accepts_decodes job b past a =
    let d = decode-job-accepted job past (read-accepted job past (record { size = a.size; reads = a.reads })) a.jumps
    a.permissions in
    rw (d, a.buffers)

-- a refused job
module _ (job : List ℕ) (b : Sizes) (r : Refusal) where
  early : decode job ≡ rejected r → decode_for job b ≡ rejected r
  early e = decode_for_rejected job b r (decode-job-rejected job r e)

pub refuses_decodes : {job : List ℕ} {b : Sizes} {r : Refusal} → Refuses job b r → decode_for job b ≡ rejected r
unfolding decode_for
refuses_decodes {job} {b} (empty e) = early job b (refuse 1 0) (decode-empty job e)
refuses_decodes {job} {b} (long l) = early job b (refuse 1 0) (decode-long job (λ z. omega arith) l)
refuses_decodes {job} {b} (no_command size place past reads h e) = early job b (refuse 2 place)
    (decoding_unknown job place past (reads_decoding size reads) h e)
refuses_decodes {job} {b} (cut_off size place past reads h e) = early job b (refuse 3 place)
    (decoding_short job place past (reads_decoding size reads) h e)
refuses_decodes {job} {b} (violates size place past c next k reads h e v n) = early job b (refuse k place)
    (decoding_refused job place past (reads_decoding size reads) h c next k e v n)
refuses_decodes {job} {b} (jumps_far size past r reads e) =
    decode_for_rejected job b r (decode_job_jump job past r (read-accepted job past (record { size = size; reads = reads })) e)
refuses_decodes {job} {b} (permits_unused size past r reads j e) =
    decode_for_rejected job b r (decode_job_unused job past r (read-accepted job past (record { size = size; reads = reads })) j e)
refuses_decodes {job} {b} (has_short_buffer size past r reads j u e) =
    let d = decode-job-accepted job past (read-accepted job past (record { size = size; reads = reads })) j u in
    rw (d, e)
