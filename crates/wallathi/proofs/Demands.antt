-- The demands of the order (specs/Demands) hold; the work stands in the other files. Assumes nothing.
use Rattle.wallathi.specs.Demands.{Demands}
use Rattle.wallathi.proofs.Runs as runs
use Rattle.wallathi.proofs.Saves as saves
use Rattle.wallathi.proofs.Loading as loading
use Rattle.wallathi.proofs.OneConsumer as consumers
use Rattle.wallathi.proofs.Damaged as damages
use Rattle.wallathi.proofs.Possible as possible
use Rattle.wallathi.proofs.Refused as refusals
use Rattle.wallathi.proofs.Absent as lacking
use Rattle.wallathi.proofs.Batches as batches
use Rattle.wallathi.proofs.Reports as reports
use Rattle.wallathi.proofs.Resp as replies

pub demands : Demands
demands =
    record {
      every_list = λ cs i k ss i₀ s d e m. runs.whole i₀ s d e m;
      equal_lists = λ cs i j k l ss ts i₀ j₀ s t n d e m f g o. runs.alike i₀ j₀ s t n d e m f g o;
      only_seven = λ j l s t c i k m n p q e f z g. runs.alone c i k m n p q e f z g;
      save_exact = λ i j s len out l d e. saves.saved i j s len out d l e;
      save_in_list = λ cs ds i k ss i₀ s len out d e m. saves.saved_there cs ds i₀ s len out d e m;
      same_snapshots = saves.same_saves;
      load_exact = loading.loads_exactly;
      one_consumer = consumers.has_one_consumer;
      absent_field = lacking.absent_field;
      batch_exact = batches.batch_exact;
      batch_in_list = batches.batch_in_list;
      report_exact = reports.report_exact;
      report_parts = reports.report_parts;
      range_exact = replies.range_exact;
      reply_exact = replies.reply_exact;
      refused_keeps = refusals.refused_keeps;
      damaged = λ cs i k ss m e h. damages.damaged m e h;
      fresh_run = possible.fresh_run;
      some_run = possible.some_run;
    }
