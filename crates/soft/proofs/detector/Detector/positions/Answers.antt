use Rattle.detect.proofs.Charted.{most}
use Rattle.soft.proofs.detector.Detector.positions.Goals as goal

pub returns-clause-most : goal.returns-clause-most
returns-clause-most c = most c.args.self.now.chart.lawful
