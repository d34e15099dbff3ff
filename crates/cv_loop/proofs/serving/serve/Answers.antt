use Rattle.cv_loop.proofs.Headline.{is_headline}
use Rattle.cv_loop.proofs.serving.serve.Goals as goal

pub returns-clause-headline : goal.returns-clause-headline
returns-clause-headline g c = is_headline c.assert_valid.ensures.some _ _ _ _ _ _ _ _ _ c.serve_stream.ensures.serves
